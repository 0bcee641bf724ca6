use Rattle.std.proofs.Common.{◌≡◌, drop, length}
use Rattle.md_text.specs.Tables.{picture_line}
use Rattle.md_text.proofs.Each.{each_left}
use Rattle.md_text.proofs.machine.Machine.picture_lines.Given as goal

-- the lines that are left make of the state what all lines make of the first one
abbrev pub invariant-loop-line : goal.invariant-loop-line
invariant-loop-line l =
    each_left (picture_line l.self.environment) l.self (drop (length l.yielded) l.fn.picture.items)
    ≡ each_left (picture_line l.fn.self.environment) l.fn.self l.fn.picture.items
