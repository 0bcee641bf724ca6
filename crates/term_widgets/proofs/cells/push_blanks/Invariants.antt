use Rattle.std.proofs.Common.{◌≡◌, ◌++◌, replicate}
use Rattle.term_core.specs.Cells.{blank_cell}
use Rattle.term_widgets.proofs.cells.push_blanks.Given as goal

abbrev pub invariant-loop-i : goal.invariant-loop-i
invariant-loop-i l = l.out.items ≡ l.initial.out.items ++ replicate l.i blank_cell
