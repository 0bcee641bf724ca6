use Rattle.std.proofs.Common.{◌≡◌, drop}
use Rattle.md_text.specs.Code.{coloured_line}
use Rattle.md_text.proofs.Each.{each_left}
use Rattle.md_text.proofs.machine.Machine.coloured_lines.Given as goal

-- the lines that are left make of the state what all lines make of the first one
abbrev pub invariant-loop-line : goal.invariant-loop-line
invariant-loop-line l = each_left coloured_line l.self (drop l.line-index l.lines) ≡ each_left coloured_line l.fn.self l.lines
