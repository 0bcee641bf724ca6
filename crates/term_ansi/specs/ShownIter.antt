-- What an iterator over the cells of a row that are shown has left.
use Rattle.std.specs.Prelude.{List, drop}
use Rattle.term_core.specs.Cells.{CellView}
use Rattle.term_core.specs.Visited.{visited}
use Rattle.term_ansi.specs.declared.shown.Shown.{Shown}

-- the shown cells that are still to come
unfoldable pub shown_left : Shown → List CellView
shown_left s = visited (drop s.place s.cells.now)
