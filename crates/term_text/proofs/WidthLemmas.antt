-- The columns of spans and lines.
use Rattle.std.proofs.Common.{◌≡◌, ◌↔◌, ℕ, ◌+◌, ◌<◌, ◌≤◌, Bool, true, false, cond, min, max, List, [], ◌∷◌, ◌++◌, map, length, drop, get_or, refl, sym, ap, ◌∙◌, arith}
use Rattle.std.proofs.lemmas.List.Sums.{sum_by-append}
use Rattle.unicode_segmentation.specs.Grapheme.{graphemes}
use Rattle.term_text.specs.declared.style.Style.{Style}
use Rattle.term_text.specs.Graph.{Grapheme, is_visible, grapheme_of, width_of, visible, pieces_of, span_graphs, spans_graphs, columns, widest}
use Rattle.term_text.specs.Plain.{IsPrintable, byte_grapheme}
use Rattle.term_text.specs.Style.{patch}
use Rattle.term_text.specs.Text.{SpanView}
use Rattle.term_text.specs.Wrap.{NoneWider}
use Rattle.term_text.proofs.CutLemmas.{columns-cons}
use Rattle.term_text.proofs.LineLemmas.{spans_graphs-drop}
use Rattle.term_text.proofs.PlainLemmas.{columns-printable, visible-printable}
use Rattle.term_text.proofs.WrapLemmas.{Narrow, Narrow-from, NoneWider-from}

-- ---- printable ASCII

columns-printable_text : (style : Style) (text : List ℕ) → IsPrintable text → columns (visible style (graphemes true text)) ≡ length text
columns-printable_text style text h = ap columns (visible-printable style text h) ∙ columns-printable style text

widest-printable : (style : Style) (bs : List ℕ) → widest (map (byte_grapheme style) bs) ≡ min (length bs) 1
unfolding widest
widest-printable style [] = refl
widest-printable style (b ∷ []) = refl
widest-printable style (b ∷ c ∷ bs) = let more = widest-printable style (c ∷ bs) in omega arith

-- a span of printable ASCII has as many columns as bytes
pub columns-printable_span : (span : SpanView) → IsPrintable span.text → span.is_glyph ≡ false → columns (visible span.style (pieces_of span)) ≡ length span.text
columns-printable_span span h one =
    ap (λ b. columns (visible span.style (cond b (span.text ∷ []) (graphemes true span.text)))) one ∙ columns-printable_text span.style span.text h

-- each of them one column wide
pub widest-printable_span : (span : SpanView) → IsPrintable span.text → span.is_glyph ≡ false → widest (visible span.style (pieces_of span)) ≡ min (length span.text) 1
widest-printable_span span h one =
    ap (λ b. widest (visible span.style (cond b (span.text ∷ []) (graphemes true span.text)))) one
    ∙ ap widest (visible-printable span.style span.text h) ∙ widest-printable span.style span.text

-- ---- the spans of a line

-- in any style pieces are as wide
columns-visible : (a b : Style) (pieces : List (List ℕ)) → columns (visible a pieces) ≡ columns (visible b pieces)
unfolding visible
columns-visible a b [] = refl
columns-visible a b (piece ∷ pieces) = go (is_visible piece) (columns-visible a b pieces)
  where
    go : (v : Bool) → columns (visible a pieces) ≡ columns (visible b pieces)
        → columns (cond v (grapheme_of a piece ∷ visible a pieces) (visible a pieces)) ≡ columns (cond v (grapheme_of b piece ∷ visible b pieces) (visible b pieces))
    go true e = columns-cons (grapheme_of a piece) (visible a pieces) ∙ ap (λ n. width_of piece + n) e ∙ sym (columns-cons (grapheme_of b piece) (visible b pieces))
    go false e = e

widest-visible : (a b : Style) (pieces : List (List ℕ)) → widest (visible a pieces) ≡ widest (visible b pieces)
unfolding visible widest
widest-visible a b [] = refl
widest-visible a b (piece ∷ pieces) = go (is_visible piece) (widest-visible a b pieces)
  where
    go : (v : Bool) → widest (visible a pieces) ≡ widest (visible b pieces)
        → widest (cond v (grapheme_of a piece ∷ visible a pieces) (visible a pieces)) ≡ widest (cond v (grapheme_of b piece ∷ visible b pieces) (visible b pieces))
    go true e = ap (max (width_of piece)) e
    go false e = e

widest-append : (gs hs : List Grapheme) → widest (gs ++ hs) ≡ max (widest gs) (widest hs)
unfolding widest
widest-append [] hs = omega arith
widest-append (g ∷ gs) hs = let more = widest-append gs hs in omega arith

-- the spans from the k-th on are as wide as that one and those behind it
pub columns-spans : (under : Style) (spans : List SpanView) (k : ℕ) (span : SpanView) → k < length spans → span ≡ get_or spans k span
    → columns (spans_graphs under (drop k spans)) ≡ columns (visible span.style (pieces_of span)) + columns (spans_graphs under (drop (k + 1) spans))
columns-spans under spans k span lt is =
    let rest : List Grapheme = spans_graphs under (drop (k + 1) spans) in
    ap columns (spans_graphs-drop under spans k span lt is) ∙ sum_by-append (λ (g : Grapheme). g.width) (span_graphs under span) rest
    ∙ ap (λ n. n + columns rest) (columns-visible (patch under span.style) span.style (pieces_of span))

pub widest-spans : (under : Style) (spans : List SpanView) (k : ℕ) (span : SpanView) → k < length spans → span ≡ get_or spans k span
    → widest (spans_graphs under (drop k spans)) ≡ max (widest (visible span.style (pieces_of span))) (widest (spans_graphs under (drop (k + 1) spans)))
widest-spans under spans k span lt is =
    let rest : List Grapheme = spans_graphs under (drop (k + 1) spans) in
    ap widest (spans_graphs-drop under spans k span lt is) ∙ widest-append (span_graphs under span) rest
    ∙ ap (λ n. max n (widest rest)) (widest-visible (patch under span.style) span.style (pieces_of span))

-- ---- any graphemes

pub widest-cons : (gs rest : List Grapheme) (g : Grapheme) → gs ≡ g ∷ rest → widest gs ≡ max g.width (widest rest)
unfolding widest
widest-cons gs rest g e = ap widest e

-- nothing is added at the end
pub widest-end : (most : ℕ) (rest all : List Grapheme) → max most (widest rest) ≡ widest all → rest ≡ [] → most ≡ widest all
unfolding widest
widest-end most rest all h none = omega (arith, h, ap widest none)

-- none is wider than the widest
pub NoneWider-widest : (w : ℕ) (gs : List Grapheme) → (widest gs ≤ w) ↔ NoneWider w gs
unfolding widest
NoneWider-widest w gs = (λ h. NoneWider-from w gs (narrow gs h), λ h. within gs (Narrow-from w gs h))
  where
    narrow : (gs : List Grapheme) → widest gs ≤ w → Narrow w gs
    narrow [] h = tt
    narrow (g ∷ gs) h = (omega arith, narrow gs (omega arith))

    within : (gs : List Grapheme) → Narrow w gs → widest gs ≤ w
    within [] h = omega arith
    within (g ∷ gs) h = let more = within gs h.1 in omega (arith, h.0)
