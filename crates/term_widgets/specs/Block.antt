-- Blocks: borders and a title.
use Rattle.std.specs.Prelude.{ℕ, ◌+◌, ◌-◌, ◌^◌, ◌<◌, Bool, ◌&&◌, ◌||◌, ◌==◌, nat_le, min, List, [], Option, Some, None, encode_utf8, if◌then◌else◌}
use Rattle.std.proofs.Common.{arith}
use Rattle.term_core.specs.declared.rect.Rect.{Rect}
use Rattle.term_core.specs.Caption.{captioned, fitted}
use Rattle.term_core.specs.Cells.{CellView}
use Rattle.term_core.specs.Graph.{Grapheme, graphs}
use Rattle.term_core.specs.Text.{LineView}

pub record BlockView : Type 0 where
  pub bordered : Bool
  pub title : Option LineView

-- ---- the inner area

-- within borders a stretch loses both ends, and its beginning does not pass its end
abbrev pub within_start : ℕ → ℕ → ℕ
within_start a n = min (a + 1) (a + n)

pub within_fits : (a n : ℕ) → a + n < 2 ^ 16 → within_start a n + (n - 2) < 2 ^ 16
within_fits a n p = omega arith

-- below a title a stretch loses its beginning
pub below_fits : (a n : ℕ) → a + n < 2 ^ 16 → within_start a n + (n - 1) < 2 ^ 16
below_fits a n p = omega arith

abbrev pub within_borders : Rect → Rect
within_borders r =
    record {
      x = within_start r.x r.width;
      y = within_start r.y r.height;
      width = r.width - 2;
      height = r.height - 2;
      right_fits = within_fits r.x r.width r.right_fits;
      bottom_fits = within_fits r.y r.height r.bottom_fits;
    }

abbrev pub below_title : Rect → Rect
below_title r =
    record r {
      y = within_start r.y r.height;
      height = r.height - 1;
      bottom_fits = below_fits r.y r.height r.bottom_fits;
    }

abbrev pub inner_without_borders : Option LineView → Rect → Rect
inner_without_borders None r = r
inner_without_borders (Some title) r = below_title r

-- what the block leaves of its area
abbrev pub inner_of : BlockView → Rect → Rect
inner_of b r = if b.bordered then within_borders r else inner_without_borders b.title r

-- ---- the borders

-- the symbol of the border on the edges that a place stands on: a corner wins over an edge, and of two corners the later one of
-- top left, top right, bottom left and bottom right
abbrev pub edge_symbol : (left right top bottom : Bool) → Option ℕ
edge_symbol left right top bottom =
    if bottom && right then Some 0x2518
    else if bottom && left then Some 0x2514
    else if top && right then Some 0x2510
    else if top && left then Some 0x250C
    else if left || right then Some 0x2502
    else if top || bottom then Some 0x2500
    else None

-- the symbol of the border at a place, if it stands on an edge
abbrev pub border_symbol : Rect → ℕ → ℕ → Option ℕ
border_symbol r x y = edge_symbol (x == r.x) (x + 1 == r.x + r.width) (y == r.y) (y + 1 == r.y + r.height)

-- the cell with the symbol, if there is one, and its own style
abbrev pub with_symbol : Option ℕ → CellView → CellView
with_symbol None c = c
with_symbol (Some symbol) c = record c { symbol = encode_utf8 symbol }

abbrev pub bordered : BlockView → Rect → ℕ → ℕ → CellView → CellView
bordered b r x y c = if b.bordered then with_symbol (border_symbol r x y) c else c

-- ---- the title

-- the graphemes of the title that fit into w columns
abbrev pub title_graphs : Option LineView → ℕ → List Grapheme
title_graphs None w = []
title_graphs (Some title) w = fitted w (graphs title)

-- where the title begins, and how many columns it has: within the corners, or the whole top row
abbrev pub title_start : BlockView → Rect → ℕ
title_start b r = if b.bordered then r.x + 1 else r.x

abbrev pub title_room : BlockView → Rect → ℕ
title_room b r = if b.bordered then r.width - 2 else r.width

abbrev pub titled : BlockView → Rect → ℕ → ℕ → CellView → CellView
titled b r x y c =
    if (y == r.y) && nat_le (title_start b r) x then captioned (title_graphs b.title (title_room b r)) (x - title_start b r) c else c

-- ---- the block

-- what the block makes of the cell at a place of its area: the title stands over the border
abbrev pub block_cell : BlockView → Rect → ℕ → ℕ → CellView → CellView
block_cell b r x y c = titled b r x y (bordered b r x y c)
