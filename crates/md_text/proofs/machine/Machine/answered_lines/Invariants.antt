use Rattle.std.proofs.Common.{◌≡◌, drop, length}
use Rattle.std.specs.Str.Lines.{lines}
use Rattle.md_text.specs.Code.{answered_line}
use Rattle.md_text.proofs.Each.{each_left}
use Rattle.md_text.proofs.machine.Machine.answered_lines.Given as goal

-- the lines that are left make of the state what all lines make of the first one
abbrev pub invariant-loop-line : goal.invariant-loop-line
invariant-loop-line g l =
    let one = answered_line (g.H.Highlighter.answer l.highlighter) l.lang in
    each_left one l.self (drop (length l.yielded) (lines l.content)) ≡ each_left one l.fn.self (lines l.content)
