-- Where the lines of a picture show the rows of its table, and the cells in them.
use Rattle.std.specs.Prelude.{◌≡◌, ℕ, zero, suc, ◌+◌, ◌≤◌, ◌⊎◌, Bool, true, if◌then◌else◌, List, [], ◌∷◌, ◌++◌, length, map, take, drop, get_or, replicate, sum_by}
use Rattle.std.specs.List.{All, AllZip, Contains}
use Rattle.term_text.specs.Graph.{Grapheme, columns, graphs}
use Rattle.term_text.specs.Lists.{joined}
use Rattle.term_text.specs.Style.{no_style}
use Rattle.term_text.specs.Text.{SpanView, LineView}
use Rattle.term_text.specs.Wrap.{fitting, Thinned}
use Rattle.term_text.specs.declared.style.Style.{Style}
use Rattle.md_picture.specs.declared.styles.Styles.{Styles}
use Rattle.md_picture.specs.declared.columns.Column.{Column}
use Rattle.md_picture.specs.Kept.{restyled}
use Rattle.md_picture.specs.Picture.{TableView, first_cell, other_cells, height_of, left_room, row_parts}

-- ---- rows

-- the greatest of some counts, and 1 at least
abbrev pub IsGreatest : ℕ → List ℕ → Type 0
IsGreatest most counts = (1 ≤ most) × All (λ count. count ≤ most) counts × ((most ≡ 1) ⊎ Contains counts most)

-- how many rows each cell has
abbrev pub row_counts : List (List (List SpanView)) → List ℕ
row_counts parts = map (λ rows. length rows) parts

-- the lines that a row of the table takes
abbrev pub row_height : List Column → List LineView → ℕ
row_height columns cells = height_of (row_parts columns cells)

-- row 0 of a table is its header, and row 1 the first of its rows
abbrev pub row_cells : TableView → ℕ → List LineView
row_cells table zero = table.header
row_cells table (suc at) = get_or table.rows at []

abbrev pub row_style : Styles → ℕ → Style
row_style styles zero = styles.header
row_style styles (suc at) = styles.cell

-- the lines that these rows take, each with the border below it if dividers are shown
abbrev pub lines_taken : Bool → List Column → List (List LineView) → ℕ
lines_taken dividers columns rows = sum_by (λ row. row_height columns row + (if dividers then 1 else 0)) rows

-- the lines above a row: the top border, and above a row behind the header also its lines, the border below it and the rows between
abbrev pub lines_above : Bool → List Column → TableView → ℕ → ℕ
lines_above dividers columns table zero = 1
lines_above dividers columns table (suc at) = 1 + row_height columns table.header + 1 + lines_taken dividers columns (take at table.rows)

-- a row's lines among those of a picture
abbrev pub lines_at : Bool → List Column → TableView → ℕ → List LineView → List LineView
lines_at dividers columns table at lines =
    take (row_height columns (row_cells table at)) (drop (lines_above dividers columns table at) lines)

-- ---- cells

-- a line's graphemes in so many columns of cells, behind so many at its left
abbrev pub behind : ℕ → LineView → List Grapheme
behind left line = drop (fitting left (graphs line)) (graphs line)

abbrev pub within : ℕ → ℕ → LineView → List Grapheme
within left width line = take (fitting width (behind left line)) (behind left line)

abbrev pub blanks : Style → ℕ → List Grapheme
blanks style room = replicate room (record { symbol = 32 ∷ []; style = style; width = 1; blank = true })

-- what is shown stands between two blanks, and the room that it leaves in its column goes to the side that the column's alignment says
pub record IsPadded (style : Style) (column : Column) (shown part : List Grapheme) : Type 0 where
  pub left : ℕ
  pub right : ℕ
  pub is : part ≡ blanks style (left + 1) ++ (shown ++ blanks style (right + 1))
  pub fills : left + columns shown + right ≡ column.width
  pub aligned : left ≡ left_room column.alignment (left + right)

-- the lines of a row show a cell in a column that begins behind so many columns of cells: what is shown in each line, joined, is
-- the cell's visible graphemes without some blanks, each in its style patched by this style
abbrev pub ShowsCell : Style → ℕ → Column → LineView → List LineView → Type 0
ShowsCell style left column cell lines =
    (shown : List (List Grapheme))
    × AllZip (λ line part. IsPadded style column part (within left (column.width + 2) line)) lines shown
    × Thinned (restyled style (graphs cell)) (joined shown)

-- the lines of a row show each of its cells that has no style under its spans; behind a column are a blank at either side and a border
abbrev pub ShowsCells : Style → ℕ → List Column → List LineView → List LineView → Type 0
ShowsCells style left [] cells lines = Unit {0}
ShowsCells style left (column ∷ columns) cells lines =
    ((first_cell cells).style ≡ no_style → ShowsCell style left column (first_cell cells) lines)
    × ShowsCells style (left + (column.width + 3)) columns (other_cells cells) lines
