-- The columns that spans take.
use Rattle.std.proofs.Common.{◌≡◌, ℕ, zero, suc, ◌+◌, ◌-◌, ◌≤◌, Bool, true, false, cond, nat_eq, ◌&&◌, List, [], ◌∷◌, ◌++◌, length, map, replicate, refl, sym, ap, ap₂, subst, ◌∙◌, arith, length-append}
use Rattle.std.proofs.lemmas.Bool.{and_parts}
use Rattle.std.proofs.lemmas.Bool.Decides.{nat_tests}
use Rattle.std.proofs.lemmas.List.{nil_from_length, length-replicate}
use Rattle.std.proofs.lemmas.List.Sums.{sum_by-cons, sum_by-append}
use Rattle.std.proofs.lemmas.Str.{chars-nil, chars-encodes, encodes-append}
use Rattle.std.specs.List.{list_all}
use Rattle.std.specs.Prelude.{codes, encode_utf8_all}
use Rattle.std.specs.Str.{all_scalars, chars}
use Rattle.ucd_table.specs.Rows.{in_ranges}
use Rattle.unicode_width.specs.Width.{str_width}
use Rattle.term_text.specs.Graph.{Grapheme, columns, visible, is_visible, width_of, grapheme_of, pieces_of, span_graphs, spans_graphs}
use Rattle.term_text.specs.Lists.{joined}
use Rattle.term_text.specs.Plain.{plain_grapheme, is_narrow, is_plain, IsPrintable}
use Rattle.term_text.specs.Style.{patch}
use Rattle.term_text.specs.Text.{SpanView, LineView}
use Rattle.term_text.specs.declared.alignment.Alignment.{Alignment}
use Rattle.term_text.specs.declared.alignment.Alignment.TheVariants as align
use Rattle.term_text.specs.declared.style.Style.{Style}
use Rattle.term_text.proofs.PlainLemmas.{visible-plain, visible-printable, plain_from_narrow, columns-narrow, columns-printable}
use Rattle.term_text.proofs.CutLemmas.{columns-cons}
use Rattle.md_picture.specs.declared.columns.Column.{Column}
use Rattle.md_picture.specs.declared.border.Edge.{Edge}
use Rattle.md_picture.specs.declared.border.Edge.TheVariants.{Top, Middle, Bottom}
use Rattle.md_picture.specs.Cells.{cell_width, patched}
use Rattle.md_picture.specs.Picture.{styled, bar, pad, part, room_of, left_room, span_width, spans_width, cell_spans, lengthened, left_of, cross_of, right_of, stroke, strokes, border_text, border_line}

-- ---- a style takes no columns

columns-visible : (s t : Style) (pieces : List (List ℕ)) → columns (visible s pieces) ≡ columns (visible t pieces)
unfolding visible
columns-visible s t [] = refl
columns-visible s t (p ∷ ps) = go (is_visible p) (columns-visible s t ps)
  where
    go : (b : Bool) → columns (visible s ps) ≡ columns (visible t ps) → columns (cond b (grapheme_of s p ∷ visible s ps) (visible s ps)) ≡ columns (cond b (grapheme_of t p ∷ visible t ps) (visible t ps))
    go true e = columns-cons (grapheme_of s p) (visible s ps) ∙ ap (λ n. width_of p + n) e ∙ sym (columns-cons (grapheme_of t p) (visible t ps))
    go false e = e

pub spans_width-cons : (span : SpanView) (spans : List SpanView) → spans_width (span ∷ spans) ≡ span_width span + spans_width spans
spans_width-cons span spans = sum_by-cons (λ (s : SpanView). span_width s) span spans

pub spans_width-append : (xs ys : List SpanView) → spans_width (xs ++ ys) ≡ spans_width xs + spans_width ys
spans_width-append xs ys = sum_by-append (λ (s : SpanView). span_width s) xs ys

pub columns-spans : (under : Style) (spans : List SpanView) → columns (spans_graphs under spans) ≡ spans_width spans
unfolding spans_graphs
columns-spans under [] = refl
columns-spans under (span ∷ spans) =
    sum_by-append (λ (g : Grapheme). g.width) (span_graphs under span) (spans_graphs under spans)
    ∙ ap₂ (λ m n. m + n) (columns-visible (patch under span.style) span.style (pieces_of span)) (columns-spans under spans)
    ∙ sym (spans_width-cons span spans)

-- ---- texts of characters of one column

-- characters of one column, which are scalars too
abbrev Narrow : List ℕ → Type 0
Narrow cs = (list_all is_narrow cs ≡ true) × (all_scalars cs ≡ true)

Narrow-cons : (c : ℕ) (cs : List ℕ) → Narrow (c ∷ []) → Narrow cs → Narrow (c ∷ cs)
Narrow-cons c cs p q = (grind (arith, nat_tests, p.0, q.0), grind (arith, nat_tests, p.1, q.1))

Narrow-append : (xs ys : List ℕ) → Narrow xs → Narrow ys → Narrow (xs ++ ys)
Narrow-append [] ys p q = q
Narrow-append (x ∷ xs) ys p q =
    let a = and_parts (is_narrow x) (list_all is_narrow xs) p.0 in
    let b = and_parts (all_scalars (x ∷ [])) (all_scalars xs) (grind (arith, nat_tests, p.1)) in
    let rest = Narrow-append xs ys (a.1, b.1) q in
    (ap₂ (λ v w. v && w) a.0 rest.0, grind (arith, nat_tests, b.0, rest.1))

Narrow-replicate : (n c : ℕ) → Narrow (c ∷ []) → Narrow (replicate n c)
Narrow-replicate zero c p = (refl, refl)
Narrow-replicate (suc n) c p = Narrow-cons c (replicate n c) p (Narrow-replicate n c p)

span_width-narrow : (style : Style) (cs text : List ℕ) → text ≡ encode_utf8_all cs → Narrow cs → span_width (styled text style) ≡ length cs
span_width-narrow style cs text e p =
    let spelt : chars text ≡ cs = ap chars e ∙ chars-encodes cs p.1 in
    let narrow : list_all is_narrow (chars text) ≡ true = ap (list_all is_narrow) spelt ∙ p.0 in
    ap columns (visible-plain style text (plain_from_narrow (chars text) narrow)) ∙ columns-narrow style (chars text) narrow ∙ ap length spelt

pub span_width-bar : (style : Style) → span_width (bar style) ≡ 1
unfolding in_ranges
span_width-bar style = span_width-narrow style (0x2502 ∷ []) (encode_utf8_all (codes "│")) refl (refl, refl)

pub printable-blanks : (n : ℕ) → IsPrintable (replicate n 32)
printable-blanks zero = refl
printable-blanks (suc n) = printable-blanks n

pub span_width-pad : (room : ℕ) (style : Style) → span_width (pad room style) ≡ room + 1
span_width-pad room style =
    ap columns (visible-printable style (replicate (room + 1) 32) (printable-blanks (room + 1)))
    ∙ columns-printable style (replicate (room + 1) 32) ∙ length-replicate (room + 1) 32

-- ---- border lines

abbrev left_code : Edge → ℕ
left_code Top = 0x250C
left_code Middle = 0x251C
left_code Bottom = 0x2514

abbrev cross_code : Edge → ℕ
cross_code Top = 0x252C
cross_code Middle = 0x253C
cross_code Bottom = 0x2534

abbrev right_code : Edge → ℕ
right_code Top = 0x2510
right_code Middle = 0x2524
right_code Bottom = 0x2518

left-is : (edge : Edge) → left_of edge ≡ encode_utf8_all (left_code edge ∷ [])
left-is Top = refl
left-is Middle = refl
left-is Bottom = refl

cross-is : (edge : Edge) → cross_of edge ≡ encode_utf8_all (cross_code edge ∷ [])
cross-is Top = refl
cross-is Middle = refl
cross-is Bottom = refl

right-is : (edge : Edge) → right_of edge ≡ encode_utf8_all (right_code edge ∷ [])
right-is Top = refl
right-is Middle = refl
right-is Bottom = refl

narrow-left : (edge : Edge) → Narrow (left_code edge ∷ [])
unfolding in_ranges
narrow-left Top = (refl, refl)
narrow-left Middle = (refl, refl)
narrow-left Bottom = (refl, refl)

narrow-cross : (edge : Edge) → Narrow (cross_code edge ∷ [])
unfolding in_ranges
narrow-cross Top = (refl, refl)
narrow-cross Middle = (refl, refl)
narrow-cross Bottom = (refl, refl)

narrow-right : (edge : Edge) → Narrow (right_code edge ∷ [])
unfolding in_ranges
narrow-right Top = (refl, refl)
narrow-right Middle = (refl, refl)
narrow-right Bottom = (refl, refl)

stroke-many : (n : ℕ) → joined (replicate n (encode_utf8_all (codes "─"))) ≡ encode_utf8_all (replicate n 0x2500)
stroke-many zero = refl
stroke-many (suc n) = ap (λ r. encode_utf8_all (codes "─") ++ r) (stroke-many n) ∙ sym (encodes-append (0x2500 ∷ []) (replicate n 0x2500))

-- so many characters of one column that spell the text
record Spelt (text : List ℕ) (n : ℕ) : Type 0 where
  pub cs : List ℕ
  pub spell : text ≡ encode_utf8_all cs
  pub many : length cs ≡ n
  pub narrow : Narrow cs

spelt-append : (xs ys : List ℕ) (m n : ℕ) → Spelt xs m → Spelt ys n → Spelt (xs ++ ys) (m + n)
spelt-append xs ys m n a b =
    record {
      cs = a.cs ++ b.cs;
      spell = ap₂ (λ s t. s ++ t) a.spell b.spell ∙ sym (encodes-append a.cs b.cs);
      many = omega (arith, length-append a.cs b.cs, a.many, b.many);
      narrow = Narrow-append a.cs b.cs a.narrow b.narrow;
    }

spelt-stroke : (column : Column) → Spelt (stroke column) (column.width + 2)
unfolding in_ranges
spelt-stroke column =
    record {
      cs = replicate (column.width + 2) 0x2500;
      spell = stroke-many (column.width + 2);
      many = length-replicate (column.width + 2) 0x2500;
      narrow = Narrow-replicate (column.width + 2) 0x2500 (refl, refl);
    }

spelt-cross : (edge : Edge) → Spelt (cross_of edge) 1
spelt-cross edge = record { cs = cross_code edge ∷ []; spell = cross-is edge; many = refl; narrow = narrow-cross edge }

spelt-left : (edge : Edge) → Spelt (left_of edge) 1
spelt-left edge = record { cs = left_code edge ∷ []; spell = left-is edge; many = refl; narrow = narrow-left edge }

spelt-right : (edge : Edge) → Spelt (right_of edge) 1
spelt-right edge = record { cs = right_code edge ∷ []; spell = right-is edge; many = refl; narrow = narrow-right edge }

-- the columns of a table with their blanks, each with one border
abbrev pub bordered : List Column → ℕ
bordered [] = 0
bordered (column ∷ columns) = column.width + 3 + bordered columns

spelt-strokes : (edge : Edge) (columns : List Column) → Spelt (strokes edge columns) (bordered columns)
unfolding strokes
spelt-strokes edge [] = record { cs = []; spell = refl; many = refl; narrow = (refl, refl) }
spelt-strokes edge (column ∷ columns) =
    let whole = spelt-append (cross_of edge) _ 1 (column.width + 2 + bordered columns) (spelt-cross edge)
    (spelt-append (stroke column) (strokes edge columns) (column.width + 2) (bordered columns) (spelt-stroke column) (spelt-strokes edge columns)) in
    let e : 1 + (column.width + 2 + bordered columns) ≡ column.width + 3 + bordered columns = omega arith in
    subst (λ n. Spelt (cross_of edge ++ (stroke column ++ strokes edge columns)) n) e whole

spelt-border : (edge : Edge) (column : Column) (columns : List Column) → Spelt (border_text edge (column ∷ columns)) (bordered (column ∷ columns) + 1)
spelt-border edge column columns =
    let whole = spelt-append (left_of edge) _ 1 (column.width + 2 + (bordered columns + 1)) (spelt-left edge)
    (spelt-append (stroke column) _ (column.width + 2) (bordered columns + 1) (spelt-stroke column)
    (spelt-append (strokes edge columns) (right_of edge) (bordered columns) 1 (spelt-strokes edge columns) (spelt-right edge))) in
    let e : 1 + (column.width + 2 + (bordered columns + 1)) ≡ column.width + 3 + bordered columns + 1 = omega arith in
    subst (λ n. Spelt (border_text edge (column ∷ columns)) n) e whole

pub width-border_line : (style : Style) (edge : Edge) (column : Column) (columns : List Column) → cell_width (border_line style edge (column ∷ columns)) ≡ bordered (column ∷ columns) + 1
width-border_line style edge column columns =
    let line = border_line style edge (column ∷ columns) in
    let text = spelt-border edge column columns in
    let span = styled (border_text edge (column ∷ columns)) style in
    omega (
      arith,
      columns-spans line.style line.spans,
      spans_width-cons span [],
      span_width-narrow style text.cs (border_text edge (column ∷ columns)) text.spell text.narrow,
      text.many,
    )

-- ---- a cell's part of a line

-- a text without bytes takes no columns
hidden-nothing : is_visible [] ≡ false
unfolding chars str_width
hidden-nothing = refl

pub visible-nothing : (style : Style) (span : SpanView) → span.text ≡ [] → visible style (pieces_of span) ≡ []
unfolding visible
visible-nothing style span e = ap (λ (t : List ℕ). visible style (pieces_of (record span { text = t }))) e ∙ go span.is_glyph
  where
    go : (b : Bool) → visible style (pieces_of (record { text = []; style = span.style; is_glyph = b })) ≡ []
    go true = ap (λ v. cond v (grapheme_of style [] ∷ []) []) hidden-nothing
    go false = visible-plain style [] (ap (list_all is_plain) chars-nil) ∙ ap (map (plain_grapheme style)) chars-nil

pub spans_width-cell_spans : (style : Style) (spans : List SpanView) → spans_width (cell_spans style spans) ≡ spans_width spans
unfolding cell_spans
spans_width-cell_spans style [] = refl
spans_width-cell_spans style (span ∷ spans) = go (nat_eq (length span.text) 0) refl (spans_width-cell_spans style spans) ∙ sym (spans_width-cons span spans)
  where
    go : (b : Bool) → nat_eq (length span.text) 0 ≡ b → spans_width (cell_spans style spans) ≡ spans_width spans → spans_width (cond b (cell_spans style spans) (patched style span ∷ cell_spans style spans)) ≡ span_width span + spans_width spans
    go true e k =
        let none : length span.text ≡ 0 = grind (arith, nat_tests, e) in
        omega (arith, k, ap columns (visible-nothing span.style span (nil_from_length span.text none)))
    go false e k =
        omega (arith, spans_width-cons (patched style span) (cell_spans style spans), columns-visible (patch span.style style) span.style (pieces_of span), k)

pub left-within : (alignment : Alignment) (room : ℕ) → left_room alignment room ≤ room
left-within align.None room = omega arith
left-within align.Left room = omega arith
left-within align.Center room = omega arith
left-within align.Right room = omega arith

pub spans_width-part : (border style : Style) (column : Column) (spans : List SpanView) → spans_width spans ≤ column.width → spans_width (part border style column spans) ≡ column.width + 3
spans_width-part border style column spans fits =
    let room = room_of column spans in
    let left = left_room column.alignment room in
    let ends = pad (room - left) style ∷ bar border ∷ [] in
    omega (
      arith,
      fits,
      left-within column.alignment room,
      spans_width-cons (pad left style) (cell_spans style spans ++ ends),
      span_width-pad left style,
      spans_width-append (cell_spans style spans) ends,
      spans_width-cell_spans style spans,
      spans_width-cons (pad (room - left) style) (bar border ∷ []),
      span_width-pad (room - left) style,
      spans_width-cons (bar border) [],
      span_width-bar border,
    )

pub width-lengthened : (line : LineView) (spans : List SpanView) → cell_width (lengthened line spans) ≡ cell_width line + spans_width spans
width-lengthened line spans =
    columns-spans line.style (line.spans ++ spans) ∙ spans_width-append line.spans spans ∙ ap (λ n. n + spans_width spans) (sym (columns-spans line.style line.spans))
