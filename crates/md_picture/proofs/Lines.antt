-- All lines of a picture are equally wide.
use Rattle.std.proofs.Common.{◌≡◌, ℕ, zero, suc, ◌+◌, ◌≤◌, Bool, true, false, cond, nat_le, Option, List, [], ◌∷◌, ◌++◌, length, map, replicate, refl, subst, arith}
use Rattle.std.proofs.lemmas.List.Sums.{sum_by-cons}
use Rattle.std.proofs.lemmas.List.Elements.{All-from_recursion, recursion_from_All}
use Rattle.std.specs.List.{AllByRecursion}
use Rattle.term_text.specs.Graph.{Grapheme, columns, graphs}
use Rattle.term_text.specs.Lists.{joined}
use Rattle.term_text.specs.Style.{no_style}
use Rattle.term_text.specs.Text.{SpanView, LineView}
use Rattle.term_text.specs.Wrap.{NoneWider, wrap}
use Rattle.term_text.specs.declared.style.Style.{Style}
use Rattle.term_text.proofs.CutLemmas.{le_of_test}
use Rattle.term_text.proofs.RowLemmas.{AllNarrow-wrap, Thinned-wrap}
use Rattle.md_picture.specs.declared.styles.Styles.{Styles}
use Rattle.md_picture.specs.declared.columns.Column.{Column}
use Rattle.md_picture.specs.declared.border.Edge.TheVariants.{Top, Middle, Bottom}
use Rattle.md_picture.specs.Cells.{cell_width, cell_rows, glyph}
use Rattle.md_picture.specs.Fits.{RowFits, RowsFit}
use Rattle.md_picture.specs.Picture.{TableView, bar, part, spans_width, first_part, other_parts, first_cell, other_cells, with_parts, with_cells, row_parts, row_lines, height_of, divider, body_lines, lines_of, picture_of, picture, border_line, table_columns}
use Rattle.md_picture.specs.Widths.{picture_width, AllAsWide}
use Rattle.md_picture.proofs.Fitting.{table-fits}
use Rattle.md_picture.proofs.Glyphs.{Genuine, genuine-front, genuine-back, genuine-spans, genuine-thinned, spans_width-glyphs}
use Rattle.md_picture.proofs.Spans.{columns-spans, spans_width-cons, spans_width-part, span_width-bar, width-lengthened, width-border_line, bordered}

-- ---- a cell's rows fit its column

abbrev pub Fit : ℕ → List (List SpanView) → Type 0
Fit w parts = AllByRecursion (λ spans. spans_width spans ≤ w) parts

fit-rows : (w : ℕ) (rows : List (List Grapheme)) → Genuine (joined rows) → AllByRecursion (λ row. columns row ≤ w) rows → Fit w (map (λ row. map glyph row) rows)
fit-rows w [] h narrow = tt
fit-rows w (row ∷ rows) h narrow =
    (omega (arith, narrow.0, spans_width-glyphs row (genuine-front row (joined rows) h)), fit-rows w rows (genuine-back row (joined rows) h) narrow.1)

pub fit-cell : (w : ℕ) (cell : LineView) → NoneWider w (graphs cell) → Fit w (cell_rows w cell)
fit-cell w cell ok = go (nat_le (cell_width cell) w) refl
  where
    go : (b : Bool) → nat_le (cell_width cell) w ≡ b → Fit w (cond b (cell.spans ∷ []) (map (λ row. map glyph row) (wrap w (graphs cell))))
    go true e = (omega (arith, le_of_test (cell_width cell) w e, columns-spans cell.style cell.spans), tt)
    go false e =
        fit-rows w (wrap w (graphs cell)) (genuine-thinned (graphs cell) _ (Thinned-wrap w (graphs cell) ok) (genuine-spans cell.style cell.spans))
        (recursion_from_All (λ (row : List Grapheme). columns row ≤ w) _ (AllNarrow-wrap w (graphs cell) ok))

pub fit-first : (w : ℕ) (parts : List (List SpanView)) → Fit w parts → spans_width (first_part parts) ≤ w
fit-first w [] f = omega arith
fit-first w (spans ∷ parts) f = f.0

pub fit-others : (w : ℕ) (parts : List (List SpanView)) → Fit w parts → Fit w (other_parts parts)
fit-others w [] f = tt
fit-others w (spans ∷ parts) f = f.1

-- ---- lines

abbrev Same : ℕ → List LineView → Type 0
Same w lines = AllByRecursion (λ line. cell_width line ≡ w) lines

same-append : (w : ℕ) (xs ys : List LineView) → Same w xs → Same w ys → Same w (xs ++ ys)
same-append w [] ys p q = q
same-append w (x ∷ xs) ys p q = (p.0, same-append w xs ys p.1 q)

same-with_parts : (w : ℕ) (border style : Style) (column : Column) (lines : List LineView) (parts : List (List SpanView)) → Same w lines → Fit column.width parts → Same (w + (column.width + 3)) (with_parts border style column lines parts)
unfolding with_parts
same-with_parts w border style column [] parts same fit = tt
same-with_parts w border style column (line ∷ lines) parts same fit = (
  omega (
    arith,
    same.0,
    width-lengthened line (part border style column (first_part parts)),
    spans_width-part border style column (first_part parts) (fit-first column.width parts fit),
  ),
  same-with_parts w border style column lines (other_parts parts) same.1 (fit-others column.width parts fit),
)

same-with_cells : (w : ℕ) (border style : Style) (cs : List Column) (cells lines : List LineView) → RowFits cs cells → Same w lines → Same (w + bordered cs) (with_cells border style cs (row_parts cs cells) lines)
unfolding with_cells row_parts
same-with_cells w border style [] cells lines fits same =
    let e : w ≡ w + 0 = omega arith in
    subst (λ n. Same n lines) e same
same-with_cells w border style (column ∷ cs) cells lines fits same =
    let e : w + (column.width + 3) + bordered cs ≡ w + (column.width + 3 + bordered cs) = omega arith in
    let more = with_parts border style column lines (cell_rows column.width (first_cell cells)) in
    subst (λ n. Same n (with_cells border style cs (row_parts cs (other_cells cells)) more)) e
    (same-with_cells (w + (column.width + 3)) border style cs (other_cells cells) more fits.1
    (same-with_parts w border style column lines (cell_rows column.width (first_cell cells)) same (fit-cell column.width (first_cell cells) fits.0)))

same-begun : (n : ℕ) (border : Style) → Same 1 (replicate n (record { spans = bar border ∷ []; style = no_style }))
same-begun zero border = tt
same-begun (suc n) border =
    (omega (arith, columns-spans no_style (bar border ∷ []), spans_width-cons (bar border) [], span_width-bar border), same-begun n border)

same-row : (border style : Style) (cs : List Column) (cells : List LineView) → RowFits cs cells → Same (bordered cs + 1) (row_lines border style cs cells)
same-row border style cs cells fits =
    let e : 1 + bordered cs ≡ bordered cs + 1 = omega arith in
    subst (λ n. Same n (row_lines border style cs cells)) e
    (same-with_cells 1 border style cs cells _ fits (same-begun (height_of (row_parts cs cells)) border))

same-divider : (w : ℕ) (dividers : Bool) (line : LineView) (rows : List (List LineView)) → cell_width line ≡ w → Same w (divider dividers line rows)
same-divider w dividers line [] h = tt
same-divider w true line (row ∷ rows) h = (h, tt)
same-divider w false line (row ∷ rows) h = tt

same-body : (styles : Styles) (dividers : Bool) (column : Column) (cs : List Column) (rows : List (List LineView)) → RowsFit (column ∷ cs) rows → Same (bordered (column ∷ cs) + 1) (body_lines styles dividers (column ∷ cs) rows)
unfolding body_lines
same-body styles dividers column cs [] fits = tt
same-body styles dividers column cs (row ∷ rows) fits =
    let w = bordered (column ∷ cs) + 1 in
    let line = border_line styles.border Middle (column ∷ cs) in
    same-append w (row_lines styles.border styles.cell (column ∷ cs) row) _ (same-row styles.border styles.cell (column ∷ cs) row fits.0)
    (same-append w (divider dividers line rows) _ (same-divider w dividers line rows (width-border_line styles.border Middle column cs))
    (same-body styles dividers column cs rows fits.1))

same-lines : (styles : Styles) (dividers : Bool) (column : Column) (cs : List Column) (header : List LineView) (rows : List (List LineView)) → RowFits (column ∷ cs) header → RowsFit (column ∷ cs) rows → Same (bordered (column ∷ cs) + 1) (lines_of styles dividers (column ∷ cs) header rows)
same-lines styles dividers column cs header rows fits others =
    let w = bordered (column ∷ cs) + 1 in (
      width-border_line styles.border Top column cs,
      same-append w (row_lines styles.border styles.header (column ∷ cs) header) _ (same-row styles.border styles.header (column ∷ cs) header fits) (
        width-border_line styles.border Middle column cs,
        same-append w (body_lines styles dividers (column ∷ cs) rows) _ (same-body styles dividers column cs rows others)
            (width-border_line styles.border Bottom column cs, tt),
      ),
    )

-- ---- the whole

bordered-sum : (cs : List Column) → bordered cs + 1 ≡ picture_width cs
bordered-sum [] = refl
bordered-sum (column ∷ cs) = omega (arith, sum_by-cons (λ (c : Column). c.width) column cs, bordered-sum cs)

pub lines-equally-wide : (styles : Styles) (width : Option ℕ) (dividers : Bool) (table : TableView) → AllAsWide (picture_width (table_columns width table)) (picture styles width dividers table)
lines-equally-wide styles width dividers table =
    All-from_recursion (λ (line : LineView). cell_width line ≡ picture_width (table_columns width table)) _
    (go (table_columns width table) (table-fits width (length table.alignments) table.alignments (table.header ∷ table.rows)))
  where
    go : (cs : List Column) → RowsFit cs (table.header ∷ table.rows) → Same (picture_width cs) (picture_of styles dividers cs table)
    go [] fits = tt
    go (column ∷ cs) fits =
        subst (λ n. Same n (lines_of styles dividers (column ∷ cs) table.header table.rows)) (bordered-sum (column ∷ cs))
        (same-lines styles dividers column cs table.header table.rows fits.0 fits.1)
