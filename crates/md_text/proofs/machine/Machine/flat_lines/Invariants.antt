use Rattle.std.proofs.Common.{◌≡◌, drop, length}
use Rattle.std.specs.Str.Lines.{lines}
use Rattle.md_text.proofs.FlatLines.{rest_flat}
use Rattle.md_text.proofs.machine.Machine.flat_lines.Given as goal

-- the lines that are left make of the state what all lines make of the first one
abbrev pub invariant-loop-line : goal.invariant-loop-line
invariant-loop-line l =
    rest_flat l.style l.self (drop (length l.yielded) (lines l.content)) ≡ rest_flat l.style l.fn.self (lines l.content)
