-- What contracts see of a cell.
use Rattle.std.specs.Prelude.{ℕ, ◌-◌, ◌+◌, zero, suc, List, [], ◌∷◌, ◌++◌, length, replicate, slice_get, unwrap_or}
use Rattle.term_text.specs.declared.style.Color.{Color}
use Rattle.term_text.specs.declared.style.Color.TheVariants.{Reset}
use Rattle.term_text.specs.declared.style.Modifier.{Modifier}
use Rattle.term_text.specs.declared.style.Style.{Style}
use Rattle.term_text.specs.Style.{less, with_all}
use Rattle.term_text.specs.Graph.{Grapheme}

pub record CellView : Type 0 where
  pub symbol : List ℕ
  pub fg : Color
  pub bg : Color
  pub modifier : Modifier

-- one space with no style
abbrev pub blank_cell : CellView
blank_cell = record { symbol = 32 ∷ []; fg = Reset; bg = Reset; modifier = record { 0 = 0 } }

-- the cell with the style set on it
abbrev pub with_style : CellView → Style → CellView
with_style c s =
    record c {
      fg = unwrap_or s.fg c.fg;
      bg = unwrap_or s.bg c.bg;
      modifier = less (with_all c.modifier s.add) s.sub;
    }

-- the first cell of a grapheme
abbrev pub cell_of : Grapheme → CellView
cell_of g = record (with_style blank_cell g.style) { symbol = g.symbol }

-- the cells of graphemes: each symbol in its first cell
unfoldable pub row_cells : List Grapheme → List CellView
row_cells [] = []
row_cells (g ∷ gs) = cell_of g ∷ (replicate (g.width - 1) blank_cell ++ row_cells gs)

-- the w cells of a row
abbrev pub cells : List Grapheme → ℕ → List CellView
cells row w = row_cells row ++ replicate (w - length (row_cells row)) blank_cell

-- h rows of w cells, from the row r on
unfoldable pub view : List (List Grapheme) → ℕ → ℕ → ℕ → List (List CellView)
view rows w zero r = []
view rows w (suc h) r = cells (unwrap_or (slice_get rows r) []) w ∷ view rows w h (r + 1)
