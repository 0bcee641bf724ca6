-- The columns of a table fit its cells.
use Rattle.std.proofs.Common.{◌≡◌, ◌≤◌, ℕ, zero, suc, Option, None, Some, List, [], ◌∷◌, length, map, fold, replicate, refl, subst, arith}
use Rattle.std.proofs.lemmas.List.Sums.{sum_by-cons}
use Rattle.term_text.specs.Graph.{Grapheme, columns, graphs, spans_graphs, widest}
use Rattle.term_text.specs.Text.{LineView}
use Rattle.term_text.specs.declared.alignment.Alignment.{Alignment}
use Rattle.term_text.proofs.WidthLemmas.{NoneWider-widest}
use Rattle.md_columns.specs.declared.bounds.Bounds.{Bounds}
use Rattle.md_columns.specs.Fair.{Ordered, Within}
use Rattle.md_columns.proofs.Fairness.{within-fair}
use Rattle.md_picture.specs.declared.columns.Column.{Column}
use Rattle.md_picture.specs.Cells.{narrowest, with_row, bounds_of}
use Rattle.md_picture.specs.Picture.{first_cell, other_cells, budget_of, widths_of, columns_of}
use Rattle.md_picture.specs.Fits.{RowFits, RowsFit}

-- no grapheme of a cell is wider than the least width of its column, and each cell has a column
abbrev Covers : List Bounds → List LineView → Type 0
Covers [] [] = Unit {0}
Covers [] (cell ∷ cells) = ⊥
Covers (b ∷ bounds) cells = (widest (graphs (first_cell cells)) ≤ b.least) × Covers bounds (other_cells cells)

covers-nothing : (bounds : List Bounds) → Covers bounds []
unfolding widest spans_graphs
covers-nothing [] = tt
covers-nothing (b ∷ bounds) = (omega arith, covers-nothing bounds)

covers-kept : (bounds : List Bounds) (cells others : List LineView) → Covers bounds cells → Covers (with_row bounds others) cells
unfolding with_row
covers-kept [] [] others h = covers-nothing (with_row [] others)
covers-kept [] (cell ∷ cells) others h = absurd h
covers-kept (b ∷ bounds) cells [] h = h
covers-kept (b ∷ bounds) cells (other ∷ others) h = (omega (arith, h.0), covers-kept bounds (other_cells cells) others h.1)

covers-own : (bounds : List Bounds) (cells : List LineView) → Covers (with_row bounds cells) cells
unfolding with_row
covers-own [] [] = tt
covers-own [] (cell ∷ cells) = (omega arith, covers-own [] cells)
covers-own (b ∷ bounds) [] = covers-nothing (b ∷ bounds)
covers-own (b ∷ bounds) (cell ∷ cells) = (omega arith, covers-own bounds cells)

abbrev with_rows : List Bounds → List (List LineView) → List Bounds
with_rows bounds rows = fold (λ bs row. with_row bs row) bounds rows

covers-after : (rows : List (List LineView)) (bounds : List Bounds) (cells : List LineView) → Covers bounds cells → Covers (with_rows bounds rows) cells
covers-after [] bounds cells h = h
covers-after (row ∷ rows) bounds cells h = covers-after rows (with_row bounds row) cells (covers-kept bounds cells row h)

-- ---- bounds in order

widest-within : (gs : List Grapheme) → widest gs ≤ columns gs
unfolding widest
widest-within [] = omega arith
widest-within (g ∷ gs) = omega (arith, sum_by-cons (λ (h : Grapheme). h.width) g gs, widest-within gs)

ordered-start : (n : ℕ) → Ordered (replicate n narrowest)
ordered-start zero = tt
ordered-start (suc n) = (omega arith, ordered-start n)

ordered-row : (bounds : List Bounds) (cells : List LineView) → Ordered bounds → Ordered (with_row bounds cells)
unfolding with_row
ordered-row [] [] h = tt
ordered-row [] (cell ∷ cells) h = (omega (arith, widest-within (graphs cell)), ordered-row [] cells tt)
ordered-row (b ∷ bounds) [] h = h
ordered-row (b ∷ bounds) (cell ∷ cells) h = (omega (arith, h.0, widest-within (graphs cell)), ordered-row bounds cells h.1)

ordered-rows : (rows : List (List LineView)) (bounds : List Bounds) → Ordered bounds → Ordered (with_rows bounds rows)
ordered-rows [] bounds h = h
ordered-rows (row ∷ rows) bounds h = ordered-rows rows (with_row bounds row) (ordered-row bounds row h)

-- ---- widths

-- each column has its least width
abbrev pub AtLeast : List Bounds → List ℕ → Type 0
AtLeast [] [] = Unit {0}
AtLeast [] (width ∷ widths) = ⊥
AtLeast (b ∷ bounds) [] = ⊥
AtLeast (b ∷ bounds) (width ∷ widths) = (b.least ≤ width) × AtLeast bounds widths

least-within : (bounds : List Bounds) (widths : List ℕ) → Within bounds widths → AtLeast bounds widths
least-within [] [] h = tt
least-within [] (width ∷ widths) h = absurd h
least-within (b ∷ bounds) [] h = absurd h
least-within (b ∷ bounds) (width ∷ widths) h = (h.0, least-within bounds widths h.2)

least-most : (bounds : List Bounds) → Ordered bounds → AtLeast bounds (map (λ (b : Bounds). b.most) bounds)
least-most [] h = tt
least-most (b ∷ bounds) h = (h.0, least-most bounds h.1)

least-widths : (width : Option ℕ) (bounds : List Bounds) → Ordered bounds → AtLeast bounds (widths_of width bounds)
least-widths None bounds h = least-most bounds h
least-widths (Some width) bounds h = least-within bounds _ (within-fair (budget_of width (length bounds)) bounds h)

pub table-least : (width : Option ℕ) (n : ℕ) (rows : List (List LineView)) → AtLeast (bounds_of n rows) (widths_of width (bounds_of n rows))
table-least width n rows = least-widths width (bounds_of n rows) (ordered-rows rows (replicate n narrowest) (ordered-start n))

-- ---- cells

row-fits : (bounds : List Bounds) (widths : List ℕ) (alignments : List Alignment) (cells : List LineView) → Covers bounds cells → AtLeast bounds widths → RowFits (columns_of widths alignments) cells
unfolding columns_of
row-fits [] [] alignments cells covers least = tt
row-fits [] (width ∷ widths) alignments cells covers least = absurd least
row-fits (b ∷ bounds) [] alignments cells covers least = absurd least
row-fits (b ∷ bounds) (width ∷ widths) [] cells covers least =
    ((NoneWider-widest width _).0 (omega (arith, covers.0, least.0)), row-fits bounds widths [] (other_cells cells) covers.1 least.1)
row-fits (b ∷ bounds) (width ∷ widths) (alignment ∷ alignments) cells covers least =
    ((NoneWider-widest width _).0 (omega (arith, covers.0, least.0)), row-fits bounds widths alignments (other_cells cells) covers.1 least.1)

rows-fit : (fitted : List Column) (whole : List Bounds) (rows : List (List LineView)) (bounds : List Bounds) → with_rows bounds rows ≡ whole → ((cells : List LineView) → Covers whole cells → RowFits fitted cells) → RowsFit fitted rows
rows-fit fitted whole [] bounds e f = tt
rows-fit fitted whole (row ∷ rows) bounds e f =
    (f row (subst (λ bs. Covers bs row) e (covers-after rows (with_row bounds row) row (covers-own bounds row))), rows-fit fitted whole rows (with_row bounds row) e f)

pub table-fits : (width : Option ℕ) (n : ℕ) (alignments : List Alignment) (rows : List (List LineView)) → RowsFit (columns_of (widths_of width (bounds_of n rows)) alignments) rows
table-fits width n alignments rows =
    rows-fit (columns_of (widths_of width (bounds_of n rows)) alignments) (bounds_of n rows) rows (replicate n narrowest) refl
    (λ cells covers. row-fits (bounds_of n rows) (widths_of width (bounds_of n rows)) alignments cells covers (table-least width n rows))
