-- A cell's parts in a picture are its graphemes without some blanks.
use Rattle.std.proofs.Common.{◌≡◌, ℕ, Bool, true, false, cond, nat_eq, nat_le, Option, None, Some, List, [], ◌∷◌, ◌++◌, length, map, refl, sym, ap, ap₂, subst, ◌∙◌, arith, append-nil}
use Rattle.std.proofs.lemmas.Bool.Decides.{nat_tests}
use Rattle.std.proofs.lemmas.List.{nil_from_length}
use Rattle.term_text.specs.Graph.{Grapheme, graphs, visible, is_visible, grapheme_of, pieces_of, span_graphs, spans_graphs}
use Rattle.term_text.specs.Lists.{joined}
use Rattle.term_text.specs.Style.{no_style, patch, or_else}
use Rattle.term_text.specs.Text.{SpanView, LineView}
use Rattle.term_text.specs.Wrap.{NoneWider, Thinned, none, keep, skip, wrap}
use Rattle.term_text.specs.declared.style.Color.{Color}
use Rattle.term_text.specs.declared.style.Style.{Style}
use Rattle.term_text.proofs.RowLemmas.{Thinned-wrap}
use Rattle.md_picture.specs.Cells.{cell_width, glyph, patched}
use Rattle.md_picture.specs.Kept.{restyle, restyled, parts_graphs}
use Rattle.md_picture.specs.Picture.{cell_spans}
use Rattle.md_picture.proofs.Glyphs.{Genuine, genuine-front, genuine-back, genuine-spans, genuine-thinned}
use Rattle.md_picture.proofs.Spans.{visible-nothing}

-- ---- styles

or_else-none : (c : Option Color) → or_else c None ≡ c
or_else-none None = refl
or_else-none (Some c) = refl

pub patch-no_style : (s : Style) → patch no_style s ≡ s
patch-no_style s = ap₂ (λ f b. record s { fg = f; bg = b }) (or_else-none s.fg) (or_else-none s.bg)

-- ---- spans in a style

visible-restyled : (s style : Style) (pieces : List (List ℕ)) → visible (patch s style) pieces ≡ restyled style (visible s pieces)
unfolding visible
visible-restyled s style [] = refl
visible-restyled s style (p ∷ ps) = go (is_visible p) (visible-restyled s style ps)
  where
    go : (b : Bool) → visible (patch s style) ps ≡ restyled style (visible s ps) → cond b (grapheme_of (patch s style) p ∷ visible (patch s style) ps) (visible (patch s style) ps) ≡ restyled style (cond b (grapheme_of s p ∷ visible s ps) (visible s ps))
    go true e = ap (λ r. grapheme_of (patch s style) p ∷ r) e
    go false e = e

restyled-append : (style : Style) (xs ys : List Grapheme) → restyled style (xs ++ ys) ≡ restyled style xs ++ restyled style ys
restyled-append style [] ys = refl
restyled-append style (x ∷ xs) ys = ap (λ r. restyle style x ∷ r) (restyled-append style xs ys)

-- a span of a cell
graphs-patched : (style : Style) (span : SpanView) → span_graphs no_style (patched style span) ≡ restyled style (span_graphs no_style span)
graphs-patched style span =
    ap (λ s. visible s (pieces_of span)) (patch-no_style (patch span.style style))
    ∙ visible-restyled span.style style (pieces_of span)
    ∙ ap (λ s. restyled style (visible s (pieces_of span))) (sym (patch-no_style span.style))

graphs-cell_spans : (style : Style) (spans : List SpanView) → spans_graphs no_style (cell_spans style spans) ≡ restyled style (spans_graphs no_style spans)
unfolding spans_graphs cell_spans
graphs-cell_spans style [] = refl
graphs-cell_spans style (span ∷ spans) =
    go (nat_eq (length span.text) 0) refl (graphs-cell_spans style spans) ∙ sym (restyled-append style (span_graphs no_style span) (spans_graphs no_style spans))
  where
    go : (b : Bool) → nat_eq (length span.text) 0 ≡ b → spans_graphs no_style (cell_spans style spans) ≡ restyled style (spans_graphs no_style spans) → spans_graphs no_style (cond b (cell_spans style spans) (patched style span ∷ cell_spans style spans)) ≡ restyled style (span_graphs no_style span) ++ restyled style (spans_graphs no_style spans)
    go true e k =
        let empty : length span.text ≡ 0 = grind (arith, nat_tests, e) in
        k ∙ ap (λ gs. restyled style gs ++ restyled style (spans_graphs no_style spans)) (sym (visible-nothing (patch no_style span.style) span (nil_from_length span.text empty)))
    go false e k = ap₂ (λ a b. a ++ b) (graphs-patched style span) k

graphs-glyphs : (row : List Grapheme) → Genuine row → spans_graphs no_style (map glyph row) ≡ row
unfolding spans_graphs
graphs-glyphs [] h = refl
graphs-glyphs (g ∷ row) h =
    ap₂ (λ a b. a ++ b) (h.0 (patch no_style g.style) ∙ ap (λ s. record g { style = s } ∷ []) (patch-no_style g.style)) (graphs-glyphs row h.1)

-- ---- the parts of a cell

graphs-rows : (style : Style) (rows : List (List Grapheme)) → Genuine (joined rows) → joined (map (λ spans. spans_graphs no_style (cell_spans style spans)) (map (λ row. map glyph row) rows)) ≡ restyled style (joined rows)
graphs-rows style [] h = refl
graphs-rows style (row ∷ rows) h =
    ap₂ (λ a b. a ++ b) (graphs-cell_spans style (map glyph row) ∙ ap (restyled style) (graphs-glyphs row (genuine-front row (joined rows) h)))
    (graphs-rows style rows (genuine-back row (joined rows) h))
    ∙ sym (restyled-append style row (joined rows))

thinned-all : (gs : List Grapheme) → Thinned gs gs
thinned-all [] = none
thinned-all (g ∷ gs) = keep g (thinned-all gs)

thinned-restyled : (style : Style) (gs hs : List Grapheme) → Thinned gs hs → Thinned (restyled style gs) (restyled style hs)
thinned-restyled style _ _ none = none
thinned-restyled style _ _ (keep g {gs} {rest} t) = keep _ (thinned-restyled style gs rest t)
thinned-restyled style _ _ (skip g {gs} {rest} b t) = skip _ b (thinned-restyled style gs rest t)

abbrev parts_of : Style → List (List SpanView) → List Grapheme
parts_of style rows = joined (map (λ spans. spans_graphs no_style (cell_spans style spans)) rows)

pub parts-thinned : (style : Style) (width : ℕ) (cell : LineView) → cell.style ≡ no_style → NoneWider width (graphs cell) → Thinned (restyled style (graphs cell)) (parts_graphs style width cell)
parts-thinned style width cell plain ok = go (nat_le (cell_width cell) width)
  where
    go : (b : Bool) → Thinned (restyled style (graphs cell)) (parts_of style (cond b (cell.spans ∷ []) (map (λ row. map glyph row) (wrap width (graphs cell)))))
    go true =
        subst (λ hs. Thinned (restyled style (graphs cell)) hs)
        (ap (λ s. restyled style (spans_graphs s cell.spans)) plain ∙ sym (graphs-cell_spans style cell.spans) ∙ sym (append-nil (spans_graphs no_style (cell_spans style cell.spans))))
        (thinned-all (restyled style (graphs cell)))
    go false =
        let thin = Thinned-wrap width (graphs cell) ok in
        subst (λ hs. Thinned (restyled style (graphs cell)) hs)
        (sym (graphs-rows style (wrap width (graphs cell)) (genuine-thinned (graphs cell) _ thin (genuine-spans cell.style cell.spans))))
        (thinned-restyled style (graphs cell) _ thin)
