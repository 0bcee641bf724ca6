-- Paragraphs: a page in a block.
use Rattle.std.specs.Prelude.{ℕ, List, Option, slice_get, option_map, if◌then◌else◌}
use Rattle.term_core.specs.declared.rect.Rect.{Rect}
use Rattle.term_core.specs.Cells.{CellView, view}
use Rattle.term_core.specs.Lists.{joined}
use Rattle.term_core.specs.Rect.{has_place, place_of}
use Rattle.term_core.specs.Text.{LineView}
use Rattle.term_widgets.specs.Block.{BlockView, inner_of, block_cell}
use Rattle.term_widgets.specs.Page.{rows_of}

pub record ParagraphView : Type 0 where
  pub text : List LineView
  pub block : BlockView
  pub scroll : ℕ

-- the area of its text
abbrev pub text_area : ParagraphView → Rect → Rect
text_area p r = inner_of p.block r

-- the cell at a place of an area that shows the page of a text from the row `scroll` on
abbrev pub page_cell : List LineView → ℕ → Rect → ℕ → ℕ → Option CellView
page_cell text scroll r x y = slice_get (joined (view (rows_of r.width text) r.width r.height scroll)) (place_of r x y)

-- what the paragraph makes of a place of its area
abbrev pub paragraph_cell : ParagraphView → Rect → ℕ → ℕ → Option CellView → Option CellView
paragraph_cell p r x y c =
    if has_place (text_area p r) x y then page_cell p.text p.scroll (text_area p r) x y else option_map (block_cell p.block r x y) c
