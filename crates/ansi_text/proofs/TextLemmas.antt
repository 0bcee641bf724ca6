-- Texts that are read line by line.
use Rattle.std.proofs.Common.{◌≡◌, ◌<◌, ◌==◌, ℕ, zero, suc, not, Bool, true, false, cond, List, [], ◌∷◌, ◌++◌, length, map, refl, ap, ap₂, sym, ◌∙◌, subst, arith, append_assoc, append-nil, ◌&&◌, Option, Some, None}
use Rattle.std.proofs.lemmas.List.Folds.{list_all-append}
use Rattle.std.proofs.lemmas.Bool.Decides.{nat_tests}
use Rattle.term_text.specs.LineEnds.{raw_lines}
use Rattle.term_text.specs.Style.{no_style}
use Rattle.term_text.specs.Text.{LineView}
use Rattle.term_text.specs.declared.style.Style.{Style}
use Rattle.ansi_text.specs.Sequences.{Sequence, sequence}
use Rattle.ansi_text.specs.Pieces.{Piece, sgr, cut, stretch, escape, escape_of, in_stretch, pieces, pieces_within}
use Rattle.ansi_text.specs.Ansi.{after_sequence, spans, styled, lines_of, line_view, ansi_line, style_after_line, ansi, is_text, line_is_text}
use Rattle.ansi_text.specs.Lines.{is_filled, all_filled}

-- what was read of an input: its lines so far, the style, and what is left
pub record ReadsLines (bytes : List ℕ) (text : List LineView) (style : Style) (rest : List ℕ) : Type 0 where
  pub are_lines : text ++ styled style (map pieces (raw_lines rest)) ≡ ansi bytes
  pub are_text : is_text text ≡ true

pub ReadsLines-start : (bytes : List ℕ) (text : List LineView) → 0 < length bytes → text ≡ [] → ReadsLines bytes text no_style bytes
ReadsLines-start [] text lt e = absurd (omega (arith, lt))
ReadsLines-start (b ∷ bs) text lt e =
    subst (λ (t : List LineView). ReadsLines (b ∷ bs) t no_style (b ∷ bs)) (sym e) (record { are_lines = refl; are_text = refl })

-- the first line of the rest, and the others
styled-first : (style : Style) (rest line after : List ℕ) → raw_lines rest ≡ line ∷ raw_lines after
    → styled style (map pieces (raw_lines rest)) ≡ ansi_line style line ∷ styled (style_after_line style line) (map pieces (raw_lines after))
unfolding styled
styled-first style rest line after e = ap (λ (ls : List (List ℕ)). styled style (map pieces ls)) e

pub ReadsLines-step : (bytes : List ℕ) (text more : List LineView) (style next : Style) (rest line after : List ℕ) (view : LineView)
    → ReadsLines bytes text style rest → raw_lines rest ≡ line ∷ raw_lines after → view ≡ ansi_line style line → next ≡ style_after_line style line
    → line_is_text (ansi_line style line) ≡ true → more ≡ text ++ view ∷ [] → ReadsLines bytes more next after
ReadsLines-step bytes text more style next rest line after view reads first view_is next_is is more_is = record {
  are_lines =
      ap₂ (λ (t : List LineView) (s : Style). t ++ styled s (map pieces (raw_lines after))) (more_is ∙ ap (λ (v : LineView). text ++ v ∷ []) view_is) next_is
      ∙ append_assoc text (ansi_line style line ∷ []) (styled (style_after_line style line) (map pieces (raw_lines after)))
      ∙ ap (λ (ls : List LineView). text ++ ls) (sym (styled-first style rest line after first))
      ∙ reads.are_lines;
  are_text =
      ap is_text (more_is ∙ ap (λ (v : LineView). text ++ v ∷ []) view_is)
      ∙ list_all-append line_is_text text (ansi_line style line ∷ [])
      ∙ ap₂ (λ u v. u && (v && true)) reads.are_text is;
}

pub ReadsLines-end : (bytes : List ℕ) (text : List LineView) (style : Style) (rest : List ℕ) → ReadsLines bytes text style rest → length rest ≡ 0
    → (text ≡ ansi bytes) × (is_text (ansi bytes) ≡ true)
unfolding styled raw_lines
ReadsLines-end bytes text style [] reads e =
    let same = sym (append-nil text) ∙ reads.are_lines in
    (same, sym (ap is_text same) ∙ reads.are_text)
ReadsLines-end bytes text style (b ∷ rest) reads e = absurd (omega (arith, e))

pub ReadsLines-bad : (bytes : List ℕ) (text : List LineView) (style : Style) (rest line after : List ℕ) → ReadsLines bytes text style rest
    → raw_lines rest ≡ line ∷ raw_lines after → line_is_text (ansi_line style line) ≡ false → is_text (ansi bytes) ≡ false
ReadsLines-bad bytes text style rest line after reads first bad =
    ap is_text (sym reads.are_lines ∙ ap (λ (ls : List LineView). text ++ ls) (styled-first style rest line after first))
    ∙ list_all-append line_is_text text (ansi_line style line ∷ styled (style_after_line style line) (map pieces (raw_lines after)))
    ∙ ap₂ (λ u v. u && (v && is_text (styled (style_after_line style line) (map pieces (raw_lines after))))) reads.are_text bad

-- empty input is one empty line
pub ansi-empty : (bytes : List ℕ) → length bytes ≡ 0 → (line_view [] ∷ [] ≡ ansi bytes) × (is_text (ansi bytes) ≡ true)
unfolding styled spans pieces_within
ansi-empty [] e = (refl, refl)
ansi-empty (b ∷ bytes) e = absurd (omega (arith, e))

-- no stretch is empty
abbrev FilledPieces : List Piece → Type 0
FilledPieces [] = Unit {0}
FilledPieces (sgr items ∷ ps) = FilledPieces ps
FilledPieces (cut ∷ ps) = FilledPieces ps
FilledPieces (stretch text ∷ ps) = (not (length text == 0) ≡ true) × FilledPieces ps

filled_cons : (b : ℕ) (text : List ℕ) → not (length (b ∷ text) == 0) ≡ true
filled_cons b text = go (length text)
  where
    go : (n : ℕ) → not (suc n == 0) ≡ true
    go n = grind (arith, nat_tests)

filled-in_stretch : (b : ℕ) (ps : List Piece) → FilledPieces ps → FilledPieces (in_stretch b ps)
filled-in_stretch b [] h = (filled_cons b [], tt)
filled-in_stretch b (sgr items ∷ ps) h = (filled_cons b [], h)
filled-in_stretch b (cut ∷ ps) h = (filled_cons b [], h)
filled-in_stretch b (stretch text ∷ ps) h = (filled_cons b text, h.1)

filled-escape : (o : Option Sequence) (bs : List ℕ) (ps : List Piece) → FilledPieces ps → FilledPieces ((escape_of o bs).piece ∷ ps)
filled-escape None bs ps h = h
filled-escape (Some s) bs ps h = h

filled-pieces_within : (n : ℕ) (bs : List ℕ) → FilledPieces (pieces_within n bs)
unfolding pieces_within
filled-pieces_within zero bs = tt
filled-pieces_within (suc n) [] = tt
filled-pieces_within (suc n) (b ∷ bs) =
    go (b == 27) (filled-escape (sequence bs) bs _ (filled-pieces_within n (escape bs).rest)) (filled-in_stretch b _ (filled-pieces_within n bs))
  where
    go : (v : Bool) → FilledPieces ((escape bs).piece ∷ pieces_within n (escape bs).rest) → FilledPieces (in_stretch b (pieces_within n bs))
        → FilledPieces (cond v ((escape bs).piece ∷ pieces_within n (escape bs).rest) (in_stretch b (pieces_within n bs)))
    go true h k = h
    go false h k = k

filled-spans : (style : Style) (ps : List Piece) → FilledPieces ps → is_filled (line_view (spans style ps)) ≡ true
unfolding spans
filled-spans style [] h = refl
filled-spans style (sgr items ∷ ps) h = filled-spans (after_sequence style items) ps h
filled-spans style (cut ∷ ps) h = filled-spans style ps h
filled-spans style (stretch text ∷ ps) h = ap₂ (λ u v. u && v) h.0 (filled-spans style ps h.1)

pub filled-line : (style : Style) (bytes : List ℕ) → is_filled (ansi_line style bytes) ≡ true
filled-line style bytes = filled-spans style (pieces bytes) (filled-pieces_within (length bytes) bytes)

filled-styled : (style : Style) (ls : List (List ℕ)) → all_filled (styled style (map pieces ls)) ≡ true
unfolding styled
filled-styled style [] = refl
filled-styled style (l ∷ ls) = ap₂ (λ u v. u && v) (filled-line style l) (filled-styled (style_after_line style l) ls)

pub filled-ansi : (bytes : List ℕ) → all_filled (ansi bytes) ≡ true
filled-ansi bytes = filled-styled no_style (lines_of bytes)
