-- The cells of a buffer as rows.
use Rattle.std.specs.Prelude.{ℕ, zero, suc, ◌+◌, List, [], ◌∷◌, take, drop, unwrap_or}
use Rattle.term_core.specs.declared.rect.Rect.{Rect}
use Rattle.term_core.specs.Cells.{CellView, blank_cell}
use Rattle.term_core.specs.Buffers.{BufferView, cell_at}

-- h rows of w cells
unfoldable pub cell_rows : ℕ → ℕ → List CellView → List (List CellView)
cell_rows w zero cs = []
cell_rows w (suc h) cs = take w cs ∷ cell_rows w h (drop w cs)

-- the rows of a buffer, from the top
abbrev pub buffer_rows : BufferView → List (List CellView)
buffer_rows b = cell_rows b.area.width b.area.height b.cells

-- n cells of a row of a buffer, from a place on; blank where it has none
unfoldable pub row_from : BufferView → ℕ → ℕ → ℕ → List CellView
row_from b zero x y = []
row_from b (suc n) x y = unwrap_or (cell_at b x y) blank_cell ∷ row_from b n (x + 1) y

-- h rows of a buffer, w cells of each, from a place on
unfoldable pub rows_from : BufferView → ℕ → ℕ → ℕ → ℕ → List (List CellView)
rows_from b w zero x y = []
rows_from b w (suc h) x y = row_from b w x y ∷ rows_from b w h x (y + 1)

-- the rows of a buffer on an area
abbrev pub area_rows : BufferView → Rect → List (List CellView)
area_rows b r = rows_from b r.width r.height r.x r.y
