-- A picture shows each cell in its column.
use Rattle.std.proofs.Common.{◌≡◌, ℕ, zero, suc, ◌+◌, ◌-◌, ◌<◌, ◌≤◌, Bool, true, false, cond, nat_le, List, [], ◌∷◌, ◌++◌, length, map, take, drop, get_or, replicate, refl, sym, ap, ap₂, subst, ◌∙◌, arith, append_assoc, append-nil}
use Rattle.std.proofs.Math.Seq.{take-append_seam, drop-append_seam}
use Rattle.std.proofs.lemmas.Bool.Decides.{nat_tests}
use Rattle.std.proofs.lemmas.List.{length-replicate}
use Rattle.std.proofs.lemmas.List.Sums.{sum_by-append}
use Rattle.std.specs.List.{AllByRecursion, AllZip}
use Rattle.term_text.specs.Graph.{Grapheme, columns, graphs, visible, pieces_of, span_graphs, spans_graphs}
use Rattle.term_text.specs.Lists.{joined}
use Rattle.term_text.specs.Plain.{byte_grapheme}
use Rattle.term_text.specs.Style.{no_style}
use Rattle.term_text.specs.Text.{SpanView, LineView}
use Rattle.term_text.specs.Wrap.{fitting, Thinned}
use Rattle.term_text.specs.declared.style.Style.{Style}
use Rattle.term_text.proofs.CutLemmas.{AllShown, AllShown-spans, columns-cons}
use Rattle.term_text.proofs.PlainLemmas.{visible-printable}
use Rattle.md_picture.specs.declared.styles.Styles.{Styles}
use Rattle.md_picture.specs.declared.columns.Column.{Column}
use Rattle.md_picture.specs.Cells.{cell_rows}
use Rattle.md_picture.specs.Fits.{RowFits, RowsFit}
use Rattle.md_picture.specs.Kept.{restyled}
use Rattle.md_picture.specs.Picture.{TableView, bar, cell_spans, first_cell, first_part, height_of, left_room, lengthened, other_cells, other_parts, pad, part, picture_of, room_of, row_lines, row_parts, spans_width, with_cells, with_parts}
use Rattle.md_picture.specs.Shown.{IsPadded, ShowsCells, behind, blanks, lines_at, row_cells, row_style, within}
use Rattle.md_picture.proofs.Greatest.{length-with_parts}
use Rattle.md_picture.proofs.Keeping.{parts-thinned, patch-no_style}
use Rattle.md_picture.proofs.Lines.{Fit, fit-cell, fit-first, fit-others}
use Rattle.md_picture.proofs.Places.{row-place}
use Rattle.md_picture.proofs.Spans.{columns-spans, left-within, printable-blanks, spans_width-append, spans_width-cell_spans, spans_width-cons, spans_width-part, span_width-bar}

-- ---- graphemes in columns of cells

shown-back : (xs ys : List Grapheme) → AllShown (xs ++ ys) → AllShown ys
shown-back [] ys h = h
shown-back (x ∷ xs) ys h = shown-back xs ys h.1

-- graphemes that take these columns whole are those that fit in them
fitting-whole : (n : ℕ) (xs ys : List Grapheme) → columns xs ≡ n → AllShown ys → fitting n (xs ++ ys) ≡ length xs
unfolding fitting
fitting-whole n [] [] e shown = refl
fitting-whole n [] (y ∷ ys) e shown =
    let over : nat_le y.width n ≡ false = grind (arith, nat_tests, shown.0, e) in
    ap (λ b. cond b (suc (fitting (n - y.width) ys)) 0) over
fitting-whole n (x ∷ xs) ys e shown =
    let fits : nat_le x.width n ≡ true = grind (arith, nat_tests, columns-cons x xs, e) in
    ap (λ b. cond b (suc (fitting (n - x.width) (xs ++ ys))) 0) fits
    ∙ ap suc (fitting-whole (n - x.width) xs ys (omega (arith, columns-cons x xs, e)) shown)

within-is : (left width : ℕ) (line : LineView) (before here after : List Grapheme) → graphs line ≡ before ++ (here ++ after) → columns before ≡ left → columns here ≡ width → within left width line ≡ here
within-is left width line before here after e p m =
    let shown : AllShown (here ++ after) = shown-back before (here ++ after) (subst AllShown e (AllShown-spans line.style line.spans)) in
    let rest : behind left line ≡ here ++ after =
    ap (λ gs. drop (fitting left gs) gs) e ∙ ap (λ n. drop n (before ++ (here ++ after))) (fitting-whole left before (here ++ after) p shown) ∙ drop-append_seam before (here ++ after) in
    ap (λ gs. take (fitting width gs) gs) rest ∙ ap (λ n. take n (here ++ after)) (fitting-whole width here after m (shown-back here after shown)) ∙ take-append_seam here after

-- ---- a cell's part of a line

graphs-append : (under : Style) (xs ys : List SpanView) → spans_graphs under (xs ++ ys) ≡ spans_graphs under xs ++ spans_graphs under ys
unfolding spans_graphs
graphs-append under [] ys = refl
graphs-append under (x ∷ xs) ys =
    ap (λ gs. span_graphs under x ++ gs) (graphs-append under xs ys) ∙ sym (append_assoc (span_graphs under x) (spans_graphs under xs) (spans_graphs under ys))

bytes-blanks : (style : Style) (n : ℕ) → map (byte_grapheme style) (replicate n 32) ≡ blanks style n
bytes-blanks style zero = refl
bytes-blanks style (suc n) = ap (λ gs. byte_grapheme style 32 ∷ gs) (bytes-blanks style n)

graphs-pad : (style : Style) (room : ℕ) → span_graphs no_style (pad room style) ≡ blanks style (room + 1)
graphs-pad style room =
    ap (λ s. visible s (pieces_of (pad room style))) (patch-no_style style)
    ∙ visible-printable style (replicate (room + 1) 32) (printable-blanks (room + 1)) ∙ bytes-blanks style (room + 1)

abbrev shown_of : Style → List SpanView → List Grapheme
shown_of style spans = spans_graphs no_style (cell_spans style spans)

-- what stands before the border
abbrev padded : Style → Column → List SpanView → List Grapheme
padded style column spans =
    blanks style (left_room column.alignment (room_of column spans) + 1)
    ++ (shown_of style spans ++ blanks style (room_of column spans - left_room column.alignment (room_of column spans) + 1))

graphs-part : (border style : Style) (column : Column) (spans : List SpanView) → spans_graphs no_style (part border style column spans) ≡ padded style column spans ++ spans_graphs no_style (bar border ∷ [])
unfolding spans_graphs
graphs-part border style column spans =
    let room = room_of column spans in
    let left = left_room column.alignment room in
    let right = room - left in
    let edge = spans_graphs no_style (bar border ∷ []) in
    ap₂ (λ a b. a ++ b) (graphs-pad style left)
    (graphs-append no_style (cell_spans style spans) (pad right style ∷ bar border ∷ [])
    ∙ ap (λ gs. shown_of style spans ++ (gs ++ edge)) (graphs-pad style right)
    ∙ sym (append_assoc (shown_of style spans) (blanks style (right + 1)) edge))
    ∙ sym (append_assoc (blanks style (left + 1)) (shown_of style spans ++ blanks style (right + 1)) edge)

columns-padded : (border style : Style) (column : Column) (spans : List SpanView) → spans_width spans ≤ column.width → columns (padded style column spans) ≡ column.width + 2
columns-padded border style column spans fits =
    let edge = spans_graphs no_style (bar border ∷ []) in
    let whole : columns (padded style column spans) + columns edge ≡ column.width + 3 =
    sym (sum_by-append (λ (g : Grapheme). g.width) (padded style column spans) edge) ∙ sym (ap columns (graphs-part border style column spans))
    ∙ columns-spans no_style (part border style column spans) ∙ spans_width-part border style column spans fits in
    omega (arith, whole, columns-spans no_style (bar border ∷ []), spans_width-cons (bar border) [], span_width-bar border)

padded-is : (style : Style) (column : Column) (spans : List SpanView) → spans_width spans ≤ column.width → IsPadded style column (shown_of style spans) (padded style column spans)
padded-is style column spans fits =
    let room = room_of column spans in
    let left = left_room column.alignment room in
    let whole : room ≡ left + (room - left) = omega (arith, left-within column.alignment room) in
    record {
      left = left;
      right = room - left;
      is = refl;
      fills = omega (arith, fits, whole, columns-spans no_style (cell_spans style spans), spans_width-cell_spans style spans);
      aligned = ap (left_room column.alignment) whole;
    }

-- ---- lines that get longer

-- a line without a style under its spans that is so wide
abbrev IsBegun : ℕ → LineView → Type 0
IsBegun left line = (line.style ≡ no_style) × (spans_width line.spans ≡ left)

abbrev Begun : ℕ → List LineView → Type 0
Begun left lines = AllByRecursion (λ line. IsBegun left line) lines

abbrev Longer : LineView → LineView → Type 0
Longer line longer = (more : List SpanView) × (longer ≡ lengthened line more)

lengthened-twice : (line : LineView) (xs ys : List SpanView) → lengthened (lengthened line xs) ys ≡ lengthened line (xs ++ ys)
lengthened-twice line xs ys = ap (λ spans. record line { spans = spans }) (append_assoc line.spans xs ys)

longer-same : (lines : List LineView) → AllZip Longer lines lines
longer-same [] = tt
longer-same (line ∷ lines) = (([], ap (λ spans. record line { spans = spans }) (sym (append-nil line.spans))), longer-same lines)

longer-parts : (border style : Style) (column : Column) (lines ends : List LineView) (rows : List (List SpanView)) → AllZip Longer (with_parts border style column lines rows) ends → AllZip Longer lines ends
unfolding with_parts
longer-parts border style column [] ends rows h = h
longer-parts border style column (line ∷ lines) [] rows h = absurd h
longer-parts border style column (line ∷ lines) (end ∷ ends) rows h =
    let first = part border style column (first_part rows) in
    ((first ++ h.0.0, h.0.1 ∙ lengthened-twice line first h.0.0), longer-parts border style column lines ends (other_parts rows) h.1)

longer-cells : (border style : Style) (cs : List Column) (parts : List (List (List SpanView))) (lines : List LineView) → AllZip Longer lines (with_cells border style cs parts lines)
unfolding with_cells
longer-cells border style [] parts lines = longer-same lines
longer-cells border style (column ∷ cs) [] lines = longer-same lines
longer-cells border style (column ∷ cs) (rows ∷ parts) lines =
    longer-parts border style column lines _ rows (longer-cells border style cs parts (with_parts border style column lines rows))

begun-parts : (left : ℕ) (border style : Style) (column : Column) (lines : List LineView) (rows : List (List SpanView)) → Begun left lines → Fit column.width rows → Begun (left + (column.width + 3)) (with_parts border style column lines rows)
unfolding with_parts
begun-parts left border style column [] rows begun fit = tt
begun-parts left border style column (line ∷ lines) rows begun fit =
    let first = part border style column (first_part rows) in (
      (
        begun.0.0,
        omega (arith, begun.0.1, spans_width-append line.spans first, spans_width-part border style column (first_part rows) (fit-first column.width rows fit)),
      ),
      begun-parts left border style column lines (other_parts rows) begun.1 (fit-others column.width rows fit),
    )

-- ---- a column

part-shown : (left : ℕ) (border style : Style) (column : Column) (line end : LineView) (spans : List SpanView) → IsBegun left line → spans_width spans ≤ column.width → Longer (lengthened line (part border style column spans)) end → IsPadded style column (shown_of style spans) (within left (column.width + 2) end)
part-shown left border style column line end spans begun fits longer =
    let own = part border style column spans in
    let before = spans_graphs no_style line.spans in
    let edge = spans_graphs no_style (bar border ∷ []) in
    let after = spans_graphs no_style longer.0 in
    let whole : graphs end ≡ before ++ (padded style column spans ++ (edge ++ after)) =
    ap graphs longer.1 ∙ ap (λ s. spans_graphs s ((line.spans ++ own) ++ longer.0)) begun.0
    ∙ graphs-append no_style (line.spans ++ own) longer.0
    ∙ ap (λ gs. gs ++ after) (graphs-append no_style line.spans own)
    ∙ append_assoc before (spans_graphs no_style own) after
    ∙ ap (λ gs. before ++ (gs ++ after)) (graphs-part border style column spans)
    ∙ ap (λ gs. before ++ gs) (append_assoc (padded style column spans) edge after) in
    subst (λ gs. IsPadded style column (shown_of style spans) gs)
    (sym (within-is left (column.width + 2) end before (padded style column spans) (edge ++ after) whole (columns-spans no_style line.spans ∙ begun.1) (columns-padded border style column spans fits)))
    (padded-is style column spans fits)

-- what so many lines show of a cell's rows
abbrev shown_in : Style → ℕ → List (List SpanView) → List (List Grapheme)
shown_in style zero rows = []
shown_in style (suc n) rows = shown_of style (first_part rows) ∷ shown_in style n (other_parts rows)

column-shown : (left : ℕ) (border style : Style) (column : Column) (lines ends : List LineView) (rows : List (List SpanView)) → Begun left lines → Fit column.width rows → AllZip Longer (with_parts border style column lines rows) ends → AllZip (λ line part. IsPadded style column part (within left (column.width + 2) line)) ends (shown_in style (length lines) rows)
unfolding with_parts
column-shown left border style column [] [] rows begun fit h = tt
column-shown left border style column [] (end ∷ ends) rows begun fit h = absurd h
column-shown left border style column (line ∷ lines) [] rows begun fit h = absurd h
column-shown left border style column (line ∷ lines) (end ∷ ends) rows begun fit h = (
  part-shown left border style column line end (first_part rows) begun.0 (fit-first column.width rows fit) h.0,
  column-shown left border style column lines ends (other_parts rows) begun.1 (fit-others column.width rows fit) h.1,
)

joined-shown : (style : Style) (n : ℕ) (rows : List (List SpanView)) → length rows ≤ n → joined (shown_in style n rows) ≡ joined (map (λ spans. shown_of style spans) rows)
unfolding spans_graphs cell_spans
joined-shown style zero [] h = refl
joined-shown style zero (row ∷ rows) h = absurd (omega (arith, h))
joined-shown style (suc n) [] h = joined-shown style n [] (omega arith)
joined-shown style (suc n) (row ∷ rows) h = ap (λ gs. shown_of style row ++ gs) (joined-shown style n rows (omega (arith, h)))

-- ---- a row

cells-shown : (left : ℕ) (border style : Style) (cs : List Column) (cells lines : List LineView) → RowFits cs cells → Begun left lines → height_of (row_parts cs cells) ≤ length lines → ShowsCells style left cs cells (with_cells border style cs (row_parts cs cells) lines)
unfolding with_cells row_parts height_of
cells-shown left border style [] cells lines fits begun high = tt
cells-shown left border style (column ∷ cs) cells lines fits begun high =
    let cell = first_cell cells in
    let others = other_cells cells in
    let rows = cell_rows column.width cell in
    let fit = fit-cell column.width cell fits.0 in
    let more = with_parts border style column lines rows in
    let ends = with_cells border style cs (row_parts cs others) more in (
      λ plain. (
        shown_in style (length lines) rows,
        column-shown left border style column lines ends rows begun fit (longer-cells border style cs (row_parts cs others) more),
        subst (λ gs. Thinned (restyled style (graphs cell)) gs) (sym (joined-shown style (length lines) rows (omega (arith, high)))) (parts-thinned style column.width cell plain fits.0),
      ),
      cells-shown (left + (column.width + 3)) border style cs others more fits.1
          (begun-parts left border style column lines rows begun fit)
          (omega (arith, high, length-with_parts border style column lines rows)),
    )

begun-first : (n : ℕ) (border : Style) → Begun 1 (replicate n (record { spans = bar border ∷ []; style = no_style }))
begun-first zero border = tt
begun-first (suc n) border = ((refl, omega (arith, spans_width-cons (bar border) [], span_width-bar border)), begun-first n border)

row-shown : (border style : Style) (cs : List Column) (cells : List LineView) → RowFits cs cells → ShowsCells style 1 cs cells (row_lines border style cs cells)
row-shown border style cs cells fits =
    let height = height_of (row_parts cs cells) in
    cells-shown 1 border style cs cells _ fits (begun-first height border)
    (omega (arith, length-replicate {A = LineView} height (record { spans = bar border ∷ []; style = no_style })))

-- ---- the whole

row-fits_at : (cs : List Column) (rows : List (List LineView)) (at : ℕ) → RowsFit cs rows → at < length rows → RowFits cs (get_or rows at [])
row-fits_at cs [] at fits lt = absurd (omega (arith, lt))
row-fits_at cs (row ∷ rows) zero fits lt = fits.0
row-fits_at cs (row ∷ rows) (suc at) fits lt = row-fits_at cs rows at fits.1 (omega (arith, lt))

cells-fit_at : (cs : List Column) (table : TableView) (at : ℕ) → RowsFit cs (table.header ∷ table.rows) → at ≤ length table.rows → RowFits cs (row_cells table at)
cells-fit_at cs table zero fits le = fits.0
cells-fit_at cs table (suc at) fits le = row-fits_at cs table.rows at fits.1 (omega (arith, le))

pub picture-shown : (styles : Styles) (dividers : Bool) (table : TableView) (cs : List Column) (at : ℕ) → RowsFit cs (table.header ∷ table.rows) → at ≤ length table.rows → ShowsCells (row_style styles at) 1 cs (row_cells table at) (lines_at dividers cs table at (picture_of styles dividers cs table))
picture-shown styles dividers table [] at fits le = tt
picture-shown styles dividers table (column ∷ cs) at fits le =
    subst (λ lines. ShowsCells (row_style styles at) 1 (column ∷ cs) (row_cells table at) lines)
    (sym (row-place styles dividers table (column ∷ cs) at le (omega arith)))
    (row-shown styles.border (row_style styles at) (column ∷ cs) (row_cells table at) (cells-fit_at (column ∷ cs) table at fits le))
