-- The picture of a table.
use Rattle.std.specs.Prelude.{ℕ, ◌+◌, ◌-◌, ◌*◌, ◌/◌, Bool, false, if◌then◌else◌, ◌==◌, Option, None, Some, List, [], ◌∷◌, ◌++◌, codes, encode_utf8_all, length, map, max, replicate, sum_by}
use Rattle.term_text.specs.Graph.{columns, visible, pieces_of}
use Rattle.term_text.specs.Lists.{joined}
use Rattle.term_text.specs.Style.{no_style}
use Rattle.term_text.specs.Text.{SpanView, LineView}
use Rattle.term_text.specs.declared.alignment.Alignment.{Alignment}
use Rattle.term_text.specs.declared.alignment.Alignment.TheVariants as align
use Rattle.term_text.specs.declared.style.Style.{Style}
use Rattle.md_columns.specs.declared.bounds.Bounds.{Bounds}
use Rattle.md_columns.specs.Fair.{fair}
use Rattle.md_picture.specs.declared.styles.Styles.{Styles}
use Rattle.md_picture.specs.declared.columns.Column.{Column}
use Rattle.md_picture.specs.declared.border.Edge.{Edge}
use Rattle.md_picture.specs.declared.border.Edge.TheVariants.{Top, Middle, Bottom}
use Rattle.md_picture.specs.Cells.{bounds_of, cell_rows, empty_cell, patched}

-- a header and rows of cells, each a line of spans, and the sides that the columns keep to
pub record TableView : Type 0 where
  pub alignments : List Alignment
  pub header : List LineView
  pub rows : List (List LineView)

-- ---- columns

-- each column takes its width, a blank at either side and a border, and one border more stands at the table's side
abbrev pub budget_of : ℕ → ℕ → ℕ
budget_of width count = width - (3 * count + 1)

-- all that the columns need, or a fair share of the width that is set
abbrev pub widths_of : Option ℕ → List Bounds → List ℕ
widths_of None bounds = map (λ column. column.most) bounds
widths_of (Some width) bounds = fair (budget_of width (length bounds)) bounds

unfoldable pub columns_of : List ℕ → List Alignment → List Column
columns_of [] alignments = []
columns_of (width ∷ widths) [] = record { width = width; alignment = align.None } ∷ columns_of widths []
columns_of (width ∷ widths) (alignment ∷ others) = record { width = width; alignment = alignment } ∷ columns_of widths others

abbrev pub table_columns : Option ℕ → TableView → List Column
table_columns width table = columns_of (widths_of width (bounds_of (length table.alignments) (table.header ∷ table.rows))) table.alignments

-- ---- borders

abbrev pub styled : List ℕ → Style → SpanView
styled text style = record { text = text; style = style; is_glyph = false }

abbrev pub left_of : Edge → List ℕ
left_of Top = encode_utf8_all (codes "┌")
left_of Middle = encode_utf8_all (codes "├")
left_of Bottom = encode_utf8_all (codes "└")

abbrev pub cross_of : Edge → List ℕ
cross_of Top = encode_utf8_all (codes "┬")
cross_of Middle = encode_utf8_all (codes "┼")
cross_of Bottom = encode_utf8_all (codes "┴")

abbrev pub right_of : Edge → List ℕ
right_of Top = encode_utf8_all (codes "┐")
right_of Middle = encode_utf8_all (codes "┤")
right_of Bottom = encode_utf8_all (codes "┘")

-- a stroke over a column and the blanks at its sides
abbrev pub stroke : Column → List ℕ
stroke column = joined (replicate (column.width + 2) (encode_utf8_all (codes "─")))

-- the strokes over the columns behind the first, each behind a cross
unfoldable pub strokes : Edge → List Column → List ℕ
strokes edge [] = []
strokes edge (column ∷ columns) = cross_of edge ++ (stroke column ++ strokes edge columns)

abbrev pub border_text : Edge → List Column → List ℕ
border_text edge [] = []
border_text edge (column ∷ columns) = left_of edge ++ (stroke column ++ (strokes edge columns ++ right_of edge))

-- a border line is one span
abbrev pub border_line : Style → Edge → List Column → LineView
border_line style edge columns = record { spans = styled (border_text edge columns) style ∷ []; style = no_style }

-- ---- rows

abbrev pub bar : Style → SpanView
bar style = styled (encode_utf8_all (codes "│")) style

abbrev pub span_width : SpanView → ℕ
span_width span = columns (visible span.style (pieces_of span))

abbrev pub spans_width : List SpanView → ℕ
spans_width spans = sum_by (λ span. span_width span) spans

-- the blanks at the left of a cell that has so much room to spare
abbrev pub left_room : Alignment → ℕ → ℕ
left_room align.Right room = room
left_room align.Center room = room / 2
left_room _ room = 0

abbrev pub pad : ℕ → Style → SpanView
pad room style = styled (replicate (room + 1) 32) style

-- a cell's spans in its style; those without text add nothing
unfoldable pub cell_spans : Style → List SpanView → List SpanView
cell_spans style [] = []
cell_spans style (span ∷ spans) =
    if length span.text == 0 then cell_spans style spans else patched style span ∷ cell_spans style spans

-- the blanks that a cell's spans leave in its column
abbrev pub room_of : Column → List SpanView → ℕ
room_of column spans = column.width - spans_width spans

-- a cell's part of a line: a pad, its spans, a pad, and the border behind it
abbrev pub part : Style → Style → Column → List SpanView → List SpanView
part border style column spans =
    let room = room_of column spans in
    let left = left_room column.alignment room in
    pad left style ∷ (cell_spans style spans ++ (pad (room - left) style ∷ bar border ∷ []))

-- a line with spans behind it
abbrev pub lengthened : LineView → List SpanView → LineView
lengthened line spans = record line { spans = line.spans ++ spans }

-- the first of a cell's rows, and the others; behind the last they are empty
abbrev pub first_part : List (List SpanView) → List SpanView
first_part [] = []
first_part (spans ∷ parts) = spans

abbrev pub other_parts : List (List SpanView) → List (List SpanView)
other_parts [] = []
other_parts (spans ∷ parts) = parts

-- a cell's rows are added to the lines of its row of the table, and blanks where it has no more
unfoldable pub with_parts : Style → Style → Column → List LineView → List (List SpanView) → List LineView
with_parts border style column [] parts = []
with_parts border style column (line ∷ lines) parts =
    lengthened line (part border style column (first_part parts)) ∷ with_parts border style column lines (other_parts parts)

-- the cell of the first column, and those of the others; a cell that is missing is empty
abbrev pub first_cell : List LineView → LineView
first_cell [] = empty_cell
first_cell (cell ∷ cells) = cell

abbrev pub other_cells : List LineView → List LineView
other_cells [] = []
other_cells (cell ∷ cells) = cells

-- the rows of each column's cell
unfoldable pub row_parts : List Column → List LineView → List (List (List SpanView))
row_parts [] cells = []
row_parts (column ∷ columns) cells = cell_rows column.width (first_cell cells) ∷ row_parts columns (other_cells cells)

-- a row is as high as its highest cell, and one line at least
unfoldable pub height_of : List (List (List SpanView)) → ℕ
height_of [] = 1
height_of (rows ∷ parts) = max (length rows) (height_of parts)

unfoldable pub with_cells : Style → Style → List Column → List (List (List SpanView)) → List LineView → List LineView
with_cells border style [] parts lines = lines
with_cells border style (column ∷ columns) [] lines = lines
with_cells border style (column ∷ columns) (rows ∷ parts) lines =
    with_cells border style columns parts (with_parts border style column lines rows)

-- the lines of a row
abbrev pub row_lines : Style → Style → List Column → List LineView → List LineView
row_lines border style columns cells =
    let parts = row_parts columns cells in
    with_cells border style columns parts (replicate (height_of parts) (record { spans = bar border ∷ []; style = no_style }))

-- ---- the whole

-- between two rows stands a border line if dividers are shown
abbrev pub divider : Bool → LineView → List (List LineView) → List LineView
divider dividers line [] = []
divider dividers line (row ∷ rows) = if dividers then line ∷ [] else []

unfoldable pub body_lines : Styles → Bool → List Column → List (List LineView) → List LineView
body_lines styles dividers columns [] = []
body_lines styles dividers columns (row ∷ rows) =
    row_lines styles.border styles.cell columns row
    ++ (divider dividers (border_line styles.border Middle columns) rows ++ body_lines styles dividers columns rows)

-- the lines of a header and rows in these columns
abbrev pub lines_of : Styles → Bool → List Column → List LineView → List (List LineView) → List LineView
lines_of styles dividers columns header rows =
    border_line styles.border Top columns
    ∷ (row_lines styles.border styles.header columns header
    ++ (border_line styles.border Middle columns
    ∷ (body_lines styles dividers columns rows ++ (border_line styles.border Bottom columns ∷ []))))

-- no columns give no lines
abbrev pub picture_of : Styles → Bool → List Column → TableView → List LineView
picture_of styles dividers [] table = []
picture_of styles dividers (column ∷ columns) table = lines_of styles dividers (column ∷ columns) table.header table.rows

-- the lines of a table, in a width if one is set
abbrev pub picture : Styles → Option ℕ → Bool → TableView → List LineView
picture styles width dividers table = picture_of styles dividers (table_columns width table) table
