use Rattle.std.proofs.Common.{◌≡◌, ◌++◌, List}
use Rattle.std.specs.Prelude.{replicate}
use Rattle.term_core.specs.Cells.{CellView, blank_cell}
use Rattle.term_ansi.specs.Printed.{cells_text}
use Rattle.term_ansi.proofs.print.push_blanks.Given as goal

abbrev pub invariant-blanks : goal.invariant-blanks
invariant-blanks l =
    (cs : List CellView) → l.pen ++ cells_text l.look (replicate l.left blank_cell ++ cs)
    ≡ l.initial.pen ++ cells_text l.fn.last (replicate l.fn.count blank_cell ++ cs)

abbrev pub decreases-blanks : goal.decreases-blanks
decreases-blanks l = l.left
