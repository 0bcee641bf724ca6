-- A grapheme as a span of its own.
use Rattle.std.proofs.Common.{◌≡◌, ℕ, Bool, true, false, cond, List, [], ◌∷◌, ◌++◌, map, refl, ap, ◌∙◌, arith}
use Rattle.std.specs.List.{AllByRecursion}
use Rattle.term_text.specs.Graph.{Grapheme, columns, visible, is_visible, grapheme_of, pieces_of, spans_graphs}
use Rattle.term_text.specs.Style.{patch}
use Rattle.term_text.specs.Text.{SpanView}
use Rattle.term_text.specs.Wrap.{Thinned, none, keep, skip}
use Rattle.term_text.specs.declared.style.Style.{Style}
use Rattle.term_text.proofs.CutLemmas.{columns-cons}
use Rattle.md_picture.specs.Cells.{glyph}
use Rattle.md_picture.specs.Picture.{span_width, spans_width}
use Rattle.md_picture.proofs.Spans.{spans_width-cons}

-- each grapheme's text, as one piece, is visible as that grapheme
abbrev pub Genuine : List Grapheme → Type 0
Genuine gs = AllByRecursion (λ g. (style : Style) → visible style (g.symbol ∷ []) ≡ record g { style = style } ∷ []) gs

genuine-visible : (style : Style) (pieces : List (List ℕ)) → Genuine (visible style pieces)
unfolding visible
genuine-visible style [] = tt
genuine-visible style (p ∷ ps) = go (is_visible p) refl (genuine-visible style ps)
  where
    go : (b : Bool) → is_visible p ≡ b → Genuine (visible style ps) → Genuine (cond b (grapheme_of style p ∷ visible style ps) (visible style ps))
    go true e k = (λ other. ap (λ v. cond v (grapheme_of other p ∷ []) []) e, k)
    go false e k = k

genuine-append : (xs ys : List Grapheme) → Genuine xs → Genuine ys → Genuine (xs ++ ys)
genuine-append [] ys p q = q
genuine-append (x ∷ xs) ys p q = (p.0, genuine-append xs ys p.1 q)

pub genuine-front : (xs ys : List Grapheme) → Genuine (xs ++ ys) → Genuine xs
genuine-front [] ys h = tt
genuine-front (x ∷ xs) ys h = (h.0, genuine-front xs ys h.1)

pub genuine-back : (xs ys : List Grapheme) → Genuine (xs ++ ys) → Genuine ys
genuine-back [] ys h = h
genuine-back (x ∷ xs) ys h = genuine-back xs ys h.1

pub genuine-spans : (under : Style) (spans : List SpanView) → Genuine (spans_graphs under spans)
unfolding spans_graphs
genuine-spans under [] = tt
genuine-spans under (span ∷ spans) = genuine-append _ _ (genuine-visible (patch under span.style) (pieces_of span)) (genuine-spans under spans)

pub genuine-thinned : (gs hs : List Grapheme) → Thinned gs hs → Genuine gs → Genuine hs
genuine-thinned _ _ none h = tt
genuine-thinned _ _ (keep g {gs} {rest} t) h = (h.0, genuine-thinned gs rest t h.1)
genuine-thinned _ _ (skip g {gs} {rest} b t) h = genuine-thinned gs rest t h.1

-- a glyph is as wide as its grapheme
span_width-glyph : (g : Grapheme) → ((style : Style) → visible style (g.symbol ∷ []) ≡ record g { style = style } ∷ []) → span_width (glyph g) ≡ g.width
span_width-glyph g h =
    let one : columns (g ∷ []) ≡ g.width = omega (arith, columns-cons g []) in
    ap columns (h g.style) ∙ one

pub spans_width-glyphs : (row : List Grapheme) → Genuine row → spans_width (map glyph row) ≡ columns row
spans_width-glyphs [] h = refl
spans_width-glyphs (g ∷ row) h =
    omega (arith, spans_width-cons (glyph g) (map glyph row), span_width-glyph g h.0, spans_width-glyphs row h.1, columns-cons g row)
