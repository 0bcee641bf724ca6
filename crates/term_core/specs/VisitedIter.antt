-- What an iterator over visited cells has left.
use Rattle.std.specs.Prelude.{List, drop}
use Rattle.term_core.specs.declared.visited.VisitedCells.{VisitedCells}
use Rattle.term_core.specs.Cells.{CellView}
use Rattle.term_core.specs.Visited.{visited}

-- the visited cells that are still to come
unfoldable pub visited_left : VisitedCells → List CellView
visited_left s = visited (drop s.place s.cells.now)
