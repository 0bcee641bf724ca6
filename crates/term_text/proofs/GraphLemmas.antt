-- How the visible graphemes follow from the pieces.
use Rattle.std.proofs.Common.{◌≡◌, None, ℕ, zero, suc, ◌≤◌, true, false, List, [], ◌∷◌, ◌++◌, map, drop, length, get_or, ◌+◌, ◌<◌, refl, sym, ap, ◌∙◌, arith, append-nil, ap₂, take, slice_range, ◌-◌}
use Rattle.std.proofs.lemmas.List.{length-map, drop_more, drop_all}
use Rattle.std.proofs.lemmas.Str.{chars-nil}
use Rattle.std.specs.List.{list_all}
use Rattle.unicode_segmentation.specs.Grapheme.{graphemes}
use Rattle.term_text.proofs.PlainLemmas.{visible-plain, visible-printable}
use Rattle.std.specs.Str.{chars}
use Rattle.term_text.specs.declared.style.Style.{Style}
use Rattle.term_text.specs.declared.graphs.Graphemes.{Graphemes}
use Rattle.term_text.specs.Graph.{Grapheme, grapheme_of, is_visible, visible}
use Rattle.term_text.specs.Iter.{glyph_pieces, cluster_pieces, pieces_left, plain_left, stretch_left, graphs_left}
use Rattle.term_text.specs.Plain.{IsPlain, byte_grapheme, is_printable, plain_grapheme}

pub visible-hidden : (style : Style) (p : List ℕ) (ps : List (List ℕ)) → is_visible p ≡ false → visible style (p ∷ ps) ≡ visible style ps
unfolding visible
visible-hidden style p ps h = rw h refl

pub visible-shown : (style : Style) (p : List ℕ) (ps : List (List ℕ)) → is_visible p ≡ true → visible style (p ∷ ps) ≡ grapheme_of style p ∷ visible style ps
unfolding visible
visible-shown style p ps h = rw h refl

-- no printable bytes and no plain characters stand in front
pub record AtPieces (s : Graphemes) : Type 0 where
  pub stretch : stretch_left s ≡ []
  pub plain : plain_left s ≡ []

-- then the pieces are what is left
pub graphs_left-pieces : (s : Graphemes) → AtPieces s → graphs_left s ≡ visible s.style (pieces_left s)
unfolding graphs_left
graphs_left-pieces s none = ap₂ (λ bs gs. map (byte_grapheme s.style) bs ++ (gs ++ visible s.style (pieces_left s))) none.stretch none.plain

pub graphs_left-hidden : (s t : Graphemes) (p : List ℕ) → AtPieces s → AtPieces t → pieces_left s ≡ p ∷ pieces_left t → t.style ≡ s.style
    → is_visible p ≡ false → graphs_left t ≡ graphs_left s
graphs_left-hidden s t p none none' e same h =
    graphs_left-pieces t none' ∙ ap (λ y. visible y (pieces_left t)) same
    ∙ sym (graphs_left-pieces s none ∙ ap (visible s.style) e ∙ visible-hidden s.style p (pieces_left t) h)

pub graphs_left-shown : (s t : Graphemes) (p : List ℕ) → AtPieces s → AtPieces t → pieces_left s ≡ p ∷ pieces_left t → t.style ≡ s.style
    → is_visible p ≡ true → graphs_left s ≡ grapheme_of s.style p ∷ graphs_left t
graphs_left-shown s t p none none' e same h =
    graphs_left-pieces s none ∙ ap (visible s.style) e ∙ visible-shown s.style p (pieces_left t) h
    ∙ ap (λ y. grapheme_of s.style p ∷ visible y (pieces_left t)) (sym same) ∙ ap (λ gs. grapheme_of s.style p ∷ gs) (sym (graphs_left-pieces t none'))

pub graphs_left-end : (s : Graphemes) → AtPieces s → pieces_left s ≡ [] → graphs_left s ≡ []
unfolding visible
graphs_left-end s none e = graphs_left-pieces s none ∙ ap (visible s.style) e

-- nothing is left where nothing of a text is
pub graphs_left-passed : (s : Graphemes) → length s.stretch.now ≤ s.passed → s.plain.now ≡ [] → s.glyph ≡ None → s.pieces ≡ None → graphs_left s ≡ []
unfolding stretch_left plain_left pieces_left
graphs_left-passed s all plain glyph pieces =
    graphs_left-end s record {
      stretch = drop_all s.passed s.stretch.now all;
      plain = ap (λ (text : List ℕ). map (plain_grapheme s.style) (chars text)) plain ∙ ap (map (plain_grapheme s.style)) chars-nil;
    } (ap₂ (λ g ps. glyph_pieces g ++ cluster_pieces ps) glyph pieces)

pub drop-front : {A : Type 0} (n : ℕ) (xs ys : List A) → n ≤ length xs → drop n (xs ++ ys) ≡ drop n xs ++ ys
drop-front zero xs ys h = refl
drop-front (suc n) [] ys h = absurd (omega arith)
drop-front (suc n) (x ∷ xs) ys h = drop-front n xs ys (omega arith)

drop-map : {A B : Type 0} (f : A → B) (n : ℕ) (xs : List A) → drop n (map f xs) ≡ map f (drop n xs)
drop-map f zero xs = refl
drop-map f (suc n) [] = refl
drop-map f (suc n) (x ∷ xs) = drop-map f n xs

-- some of the printable bytes in front are passed
pub drop-stretch : (style : Style) (n : ℕ) (bs : List ℕ) (rest : List Grapheme) → n ≤ length bs
    → drop n (map (byte_grapheme style) bs ++ rest) ≡ map (byte_grapheme style) (drop n bs) ++ rest
drop-stretch style n bs rest h =
    drop-front n (map (byte_grapheme style) bs) rest (omega (arith, length-map bs (byte_grapheme style))) ∙ ap (λ xs. xs ++ rest) (drop-map (byte_grapheme style) n bs)

-- printable bytes and no pieces
pub stretch-graphemes : (style : Style) (text : List ℕ) (ps : List (List ℕ)) → list_all is_printable text ≡ true → ps ≡ []
    → map (byte_grapheme style) text ++ visible style ps ≡ visible style (graphemes true text)
unfolding visible
stretch-graphemes style text ps h none =
    ap (λ qs. map (byte_grapheme style) text ++ visible style qs) none ∙ append-nil _ ∙ sym (visible-printable style text h)

-- plain characters and no pieces
pub plain-graphemes : (style : Style) (text : List ℕ) (ps : List (List ℕ)) → IsPlain text → ps ≡ []
    → map (plain_grapheme style) (chars text) ++ visible style ps ≡ visible style (graphemes true text)
unfolding visible
plain-graphemes style text ps h none =
    ap (λ qs. map (plain_grapheme style) (chars text) ++ visible style qs) none ∙ append-nil _ ∙ sym (visible-plain style text h)

-- the first byte of a stretch
pub stretch-next : (style : Style) (bytes : List ℕ) (at : ℕ) (rest : List Grapheme) → at < length bytes
    → map (byte_grapheme style) (drop at bytes) ++ rest ≡ byte_grapheme style (get_or bytes at 0) ∷ (map (byte_grapheme style) (drop (at + 1) bytes) ++ rest)
stretch-next style bytes at rest lt = ap (λ bs. map (byte_grapheme style) bs ++ rest) (drop_more bytes at 0 lt)

-- the byte at a place, as a slice
pub one-byte : (bytes : List ℕ) (at : ℕ) → at < length bytes → slice_range bytes at (at + 1) ≡ get_or bytes at 0 ∷ []
one-byte bytes at lt = ap₂ take one (drop_more bytes at 0 lt)
  where
    one : at + 1 - at ≡ 1
    one = omega arith
