-- A picture is no wider than a width that suffices for the least widths of its columns.
use Rattle.std.proofs.Common.{◌≡◌, ℕ, ◌+◌, ◌*◌, ◌≤◌, Bool, Some, List, [], ◌∷◌, length, sum, sum_by, refl, arith}
use Rattle.std.proofs.lemmas.List.Sums.{sum_by-cons}
use Rattle.std.proofs.lemmas.List.Elements.{All-weaker}
use Rattle.term_text.specs.Text.{LineView}
use Rattle.term_text.specs.declared.alignment.Alignment.{Alignment}
use Rattle.term_text.specs.declared.alignment.Alignment.TheVariants as align
use Rattle.md_columns.specs.declared.bounds.Bounds.{Bounds}
use Rattle.md_columns.specs.declared.bounds.Choice.TheVariants.{Least}
use Rattle.md_columns.specs.Fair.{fair, total}
use Rattle.md_columns.proofs.Fairness.{sum-cons, fair-fits, length-fair}
use Rattle.md_picture.specs.declared.styles.Styles.{Styles}
use Rattle.md_picture.specs.declared.columns.Column.{Column}
use Rattle.md_picture.specs.Cells.{bounds_of, cell_width}
use Rattle.md_picture.specs.Least.{least_width, NoLineWider}
use Rattle.md_picture.specs.Picture.{TableView, budget_of, columns_of, picture, table_columns}
use Rattle.md_picture.specs.Widths.{picture_width}
use Rattle.md_picture.proofs.Lines.{lines-equally-wide}

-- columns have the widths that they are made of
sum-columns_of : (widths : List ℕ) (alignments : List Alignment) → sum_by (λ (column : Column). column.width) (columns_of widths alignments) ≡ sum widths
unfolding columns_of
sum-columns_of [] alignments = refl
sum-columns_of (width ∷ widths) [] =
    let column : Column = record { width = width; alignment = align.None } in
    omega (arith, sum_by-cons (λ (c : Column). c.width) column (columns_of widths []), sum-cons width widths, sum-columns_of widths [])
sum-columns_of (width ∷ widths) (alignment ∷ others) =
    let column : Column = record { width = width; alignment = alignment } in
    omega (arith, sum_by-cons (λ (c : Column). c.width) column (columns_of widths others), sum-cons width widths, sum-columns_of widths others)

length-columns_of : (widths : List ℕ) (alignments : List Alignment) → length (columns_of widths alignments) ≡ length widths
unfolding columns_of
length-columns_of [] alignments = refl
length-columns_of (width ∷ widths) [] = omega (arith, length-columns_of widths [])
length-columns_of (width ∷ widths) (alignment ∷ others) = omega (arith, length-columns_of widths others)

columns-fit : (width : ℕ) (bounds : List Bounds) (alignments : List Alignment) → total Least bounds + 3 * length bounds + 1 ≤ width
    → picture_width (columns_of (fair (budget_of width (length bounds)) bounds) alignments) ≤ width
columns-fit width bounds alignments fits =
    let budget : ℕ = budget_of width (length bounds) in
    let kept : sum (fair budget bounds) ≤ budget = fair-fits budget bounds (omega (arith, fits)) in
    omega (arith, fits, kept, sum-columns_of (fair budget bounds) alignments, length-columns_of (fair budget bounds) alignments, length-fair budget bounds)

pub picture-fits : (width : ℕ) (table : TableView) → least_width table ≤ width → picture_width (table_columns (Some width) table) ≤ width
picture-fits width table fits = columns-fit width (bounds_of (length table.alignments) (table.header ∷ table.rows)) table.alignments fits

pub lines-fit : (styles : Styles) (width : ℕ) (dividers : Bool) (table : TableView) → least_width table ≤ width → NoLineWider width (picture styles (Some width) dividers table)
lines-fit styles width dividers table fits =
    All-weaker (λ (line : LineView). cell_width line ≡ picture_width (table_columns (Some width) table)) (λ (line : LineView). cell_width line ≤ width)
    (λ line is. omega (arith, is, picture-fits width table fits)) _ (lines-equally-wide styles (Some width) dividers table)
