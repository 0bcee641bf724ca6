use Rattle.std.proofs.Common.{◌≡◌, ◌++◌, ◌+◌, length}
use Rattle.term_core.specs.Graph.{columns}
use Rattle.term_core.specs.Cells.{row_cells}
use Rattle.term_core.specs.Rows.{row_left, row_graphs}
use Rattle.term_widgets.proofs.cells.push_row.Given as goal

-- the cells so far and those to come are all, and the room is what is left after those to come
abbrev pub invariant-graphs : goal.invariant-graphs
invariant-graphs l =
    (l.out.items ++ row_cells (row_left l.rest) ≡ l.initial.out.items ++ row_cells (row_graphs l.row))
    × (l.room + columns (row_graphs l.row) ≡ l.width + columns (row_left l.rest))

abbrev pub decreases-graphs : goal.decreases-graphs
decreases-graphs l = length (row_left l.rest)
