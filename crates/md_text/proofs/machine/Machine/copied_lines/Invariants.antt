use Rattle.std.proofs.Common.{◌≡◌, drop, length}
use Rattle.std.specs.Str.Lines.{lines}
use Rattle.md_text.proofs.TextLines.{rest_laid}
use Rattle.md_text.proofs.machine.Machine.copied_lines.Given as goal

-- the lines that are left make of the state what all lines make of the first one
abbrev pub invariant-loop-line : goal.invariant-loop-line
invariant-loop-line l =
    rest_laid l.self l.is_first (drop (length l.yielded) (lines l.content)) ≡ rest_laid l.fn.self l.fn.joins (lines l.content)
