-- Cells of a table, and the bounds of its columns.
use Rattle.std.specs.Prelude.{ℕ, nat_le, true, if◌then◌else◌, List, [], ◌∷◌, fold, map, max, replicate}
use Rattle.term_text.specs.Graph.{Grapheme, columns, graphs, widest}
use Rattle.term_text.specs.Style.{no_style, patch}
use Rattle.term_text.specs.Text.{SpanView, LineView}
use Rattle.term_text.specs.Wrap.{wrap}
use Rattle.term_text.specs.declared.style.Style.{Style}
use Rattle.md_columns.specs.declared.bounds.Bounds.{Bounds}

-- a cell is a line of spans; one that is missing is empty
abbrev pub empty_cell : LineView
empty_cell = record { spans = []; style = no_style }

-- the columns that the cell's visible graphemes take
abbrev pub cell_width : LineView → ℕ
cell_width cell = columns (graphs cell)

-- a column has one column of cells at least
abbrev pub narrowest : Bounds
narrowest = record { least = 1; most = 1 }

-- the least width of a column is its widest grapheme, and the most is its widest cell
abbrev pub with_cell : Bounds → LineView → Bounds
with_cell bounds cell =
    record { least = max bounds.least (widest (graphs cell)); most = max bounds.most (cell_width cell) }

-- a row's cells, one column each; a row that is longer makes columns
unfoldable pub with_row : List Bounds → List LineView → List Bounds
with_row [] [] = []
with_row [] (cell ∷ cells) = with_cell narrowest cell ∷ with_row [] cells
with_row (bounds ∷ others) [] = bounds ∷ others
with_row (bounds ∷ others) (cell ∷ cells) = with_cell bounds cell ∷ with_row others cells

-- the bounds of the columns of a table with so many alignments and these rows, the header among them
abbrev pub bounds_of : ℕ → List (List LineView) → List Bounds
bounds_of alignments rows = fold (λ bounds row. with_row bounds row) (replicate alignments narrowest) rows

-- a grapheme as a span of its own
abbrev pub glyph : Grapheme → SpanView
glyph g = record { text = g.symbol; style = g.style; is_glyph = true }

-- the rows of a cell in a column of this width: its spans if they fit, else the rows of its wrap, each grapheme a glyph
abbrev pub cell_rows : ℕ → LineView → List (List SpanView)
cell_rows width cell =
    if nat_le (cell_width cell) width then cell.spans ∷ []
    else map (λ row. map glyph row) (wrap width (graphs cell))

-- a span in its style patched by the cell's
abbrev pub patched : Style → SpanView → SpanView
patched style span = record span { style = patch span.style style }
