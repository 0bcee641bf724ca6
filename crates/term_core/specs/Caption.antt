-- Graphemes that are written over cells: a title or a label.
use Rattle.std.specs.Prelude.{ℕ, ◌-◌, List, [], ◌∷◌, ◌++◌, replicate, take, Option, Some, None, slice_get}
use Rattle.term_text.specs.declared.style.Style.{Style}
use Rattle.term_text.specs.Graph.{Grapheme}
use Rattle.term_text.specs.Wrap.{fitting}
use Rattle.term_core.specs.declared.caption.Stroke.{Stroke}
use Rattle.term_core.specs.declared.caption.Stroke.TheVariants.{Symbol, Blank}
use Rattle.term_core.specs.Cells.{CellView, blank_cell, with_style}

-- the graphemes in front that fit into w columns, each as a whole
abbrev pub fitted : ℕ → List Grapheme → List Grapheme
fitted w gs = take (fitting w gs) gs

-- the cell with the symbol of another, and the style over its own
abbrev pub inscribed : CellView → Style → CellView → CellView
inscribed other style c = record (with_style c style) { symbol = other.symbol }

-- what graphemes do to the cells, column by column: a symbol in the first, and the others become blank
unfoldable pub strokes : List Grapheme → List Stroke
strokes [] = []
strokes (g ∷ gs) = Symbol (record blank_cell { symbol = g.symbol }) g.style ∷ (replicate (g.width - 1) Blank ++ strokes gs)

-- the cell after a stroke, if there is one
abbrev pub struck : Option Stroke → CellView → CellView
struck None c = c
struck (Some (Symbol other style)) c = inscribed other style c
struck (Some Blank) c = blank_cell

-- the cell that stands i columns behind the beginning of the graphemes, once they are written over it
abbrev pub captioned : List Grapheme → ℕ → CellView → CellView
captioned gs i c = struck (slice_get (strokes gs) i) c
