-- What an iterator over the rows of a buffer has left.
use Rattle.std.specs.Prelude.{List, drop}
use Rattle.term_core.specs.declared.buffer_rows.BufferRows.{BufferRows}
use Rattle.term_core.specs.Cells.{CellView}
use Rattle.term_core.specs.BufferRows.{cell_rows}

-- the rows that are still to come
unfoldable pub buffer_rows_left : BufferRows → List (List CellView)
buffer_rows_left s = cell_rows s.width s.left (drop s.place s.cells.now)
