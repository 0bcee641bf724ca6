-- The stretches of a UTF-8 input are UTF-8, since it is cut at ASCII bytes alone.
use Rattle.std.proofs.Common.{◌≡◌, ◌<◌, ◌≤◌, ◌+◌, ◌==◌, ℕ, zero, suc, Bool, true, false, cond, List, [], ◌∷◌, ◌++◌, length, take, drop, map, refl, ap, ap₂, sym, ◌∙◌, subst, arith, append_assoc, ◌&&◌, Option, Some, None, IfSome, get_or, get_or-drop, length-append, length-drop, nat_lt, Result, Err}
use Rattle.std.proofs.Math.Seq.{drop-append-add, get_or-append_seam}
use Rattle.std.proofs.lemmas.Bool.{eqb-true, false≢true}
use Rattle.std.proofs.lemmas.Bool.Decides.{nat_tests}
use Rattle.std.proofs.lemmas.Str.{IsUtf8-nil, IsUtf8-take, IsUtf8-drop, IsCharBoundary-after_ascii, IsCharBoundary-before_ascii, IsCharBoundary-end, is_utf8-from_IsUtf8}
use Rattle.std.proofs.lemmas.List.Folds.{list_all-append}
use Rattle.std.specs.List.{list_all}
use Rattle.std.proofs.lemmas.Result.{MatchResult-at_err}
use Rattle.std.specs.Str.{IsUtf8, is_utf8, IsCharBoundary}
use Rattle.term_text.specs.LineEnds.{raw_lines, first_end, after_end, end_length}
use Rattle.term_text.specs.Text.{SpanView, LineView}
use Rattle.term_text.specs.declared.style.Style.{Style}
use Rattle.term_text.proofs.EndLemmas.{raw_lines-split, boundary_first_end, boundary_end, AtEnd-first_end, after_end-drop, after_end-shorter}
use Rattle.ansi_text.specs.Sequences.{Sequence, sequence}
use Rattle.ansi_text.specs.Pieces.{is_letter, is_bell, beyond, after_dropped, escape, escape_of, pieces, pieces_within, first_escape, AtEscape}
use Rattle.ansi_text.specs.Ansi.{spans, styled, ansi_line, style_after_line, ansi_from, is_text, line_is_text}
use Rattle.ansi_text.specs.Reads.{past_escape}
use Rattle.ansi_text.specs.declared.error.Error.{Error}
use Rattle.ansi_text.specs.declared.error.Error.TheVariants.{Utf8Error}
use Rattle.ansi_text.specs.Answers.{GivesLines}
use Rattle.ansi_text.proofs.KeepLemmas.{Keeps, Behind-from}
use Rattle.ansi_text.proofs.SequenceLemmas.{kept-sequence}
use Rattle.ansi_text.proofs.PieceLemmas.{AtEscape-first_escape, first_escape-le}
use Rattle.ansi_text.proofs.LineLemmas.{text_spans, spans-step, past_escape-shorter, text_spans-are_text}

-- a text is cut behind an ASCII byte
utf8-after : (xs : List ℕ) (b : ℕ) (ys : List ℕ) → b < 128 → IsUtf8 (xs ++ b ∷ ys) → IsUtf8 ys
utf8-after xs b ys lt u =
    let seam = get_or-append_seam xs b ys 0 in
    let inside : length xs < length (xs ++ b ∷ ys) = omega (arith, length-append xs (b ∷ ys)) in
    let cut = IsCharBoundary-after_ascii (xs ++ b ∷ ys) (length xs) u inside (omega (arith, seam, lt)) in
    subst IsUtf8 (drop-append-add xs (b ∷ ys) 1) (IsUtf8-drop (xs ++ b ∷ ys) (length xs + 1) u cut)

utf8-keeps : Keeps IsUtf8
utf8-keeps b bs lt u = utf8-after [] b bs lt u

-- behind the first byte that passes a test of ASCII bytes
utf8-beyond : (test : ℕ → Bool) → ((b : ℕ) → test b ≡ true → b < 128) → (xs bs : List ℕ) → IsUtf8 (xs ++ bs) → IsUtf8 (beyond test bs)
unfolding beyond
utf8-beyond test ascii xs [] u = IsUtf8-nil
utf8-beyond test ascii xs (b ∷ bs) u =
    go (test b) refl (utf8-beyond test ascii (xs ++ b ∷ []) bs (subst IsUtf8 (sym (append_assoc xs (b ∷ []) bs)) u))
  where
    go : (v : Bool) → test b ≡ v → IsUtf8 (beyond test bs) → IsUtf8 (cond v bs (beyond test bs))
    go true e h = utf8-after xs b bs (ascii b e) u
    go false e h = h

letter_ascii : (b : ℕ) → is_letter b ≡ true → b < 128
letter_ascii b e = grind (arith, nat_tests)

bell_ascii : (b : ℕ) → is_bell b ≡ true → b < 128
bell_ascii b e = grind (arith, nat_tests)

utf8-after_dropped : (bs : List ℕ) → IsUtf8 bs → IsUtf8 (after_dropped bs)
utf8-after_dropped [] u = u
utf8-after_dropped (b ∷ bs) u =
    go (b == 91) (b == 93) refl refl
  where
    go : (v w : Bool) → (b == 91) ≡ v → (b == 93) ≡ w → IsUtf8 (cond v (beyond is_letter bs) (cond w (beyond is_bell bs) (b ∷ bs)))
    go true w e f = utf8-beyond is_letter letter_ascii [] bs (utf8-keeps b bs (let same : b ≡ 91 = eqb-true b 91 e in omega (arith, same)) u)
    go false true e f = utf8-beyond is_bell bell_ascii [] bs (utf8-keeps b bs (let same : b ≡ 93 = eqb-true b 93 f in omega (arith, same)) u)
    go false false e f = u

utf8-escape : (bs : List ℕ) → IsUtf8 bs → IsUtf8 (escape bs).rest
utf8-escape bs u = go (sequence bs) (kept-sequence IsUtf8 utf8-keeps bs (Behind-from IsUtf8 utf8-keeps bs u))
  where
    go : (o : Option Sequence) → IfSome o (λ s. IsUtf8 s.rest) → IsUtf8 (escape_of o bs).rest
    go None h = utf8-after_dropped bs u
    go (Some s) h = h

utf8-past : (style : Style) (bs : List ℕ) → AtEscape bs → IsUtf8 bs → IsUtf8 (past_escape style bs).rest
utf8-past style [] e u = u
utf8-past style (b ∷ bs) e u = utf8-escape bs (utf8-keeps b bs (let same : b ≡ 27 = eqb-true b 27 e in omega (arith, same)) u)

AtEscape-byte : (bs : List ℕ) → 0 < length bs → AtEscape bs → get_or bs 0 0 ≡ 27
AtEscape-byte [] lt e = absurd (omega (arith, lt))
AtEscape-byte (b ∷ bs) lt e = eqb-true b 27 e

-- a text may be cut before its first escape byte
boundary_first_escape : (bs : List ℕ) → IsCharBoundary bs (first_escape bs)
boundary_first_escape bs = elim (nat_lt (first_escape bs) (length bs)) as (λ v. nat_lt (first_escape bs) (length bs) ≡ v → IsCharBoundary bs (first_escape bs)) [
  | true ↦ λ e. let lt : first_escape bs < length bs = grind (arith, nat_tests) in
      IsCharBoundary-before_ascii bs (first_escape bs) lt
      (let some : 0 < length (drop (first_escape bs) bs) = omega (arith, lt, length-drop (first_escape bs) bs) in
      let h = AtEscape-byte (drop (first_escape bs) bs) some (AtEscape-first_escape bs) in
      let same : get_or (drop (first_escape bs) bs) 0 0 ≡ get_or bs (first_escape bs) 0 = get_or-drop (first_escape bs) bs 0 0 ∙ ap (λ (n : ℕ). get_or bs n 0) (omega arith) in
      omega (arith, h, same))
  | false ↦ λ e. let same : length bs ≡ first_escape bs = grind (arith, nat_tests, first_escape-le bs) in subst (IsCharBoundary bs) same (IsCharBoundary-end bs)
] refl

utf8-spans : (n : ℕ) (style : Style) (bs : List ℕ) → length bs ≤ n → IsUtf8 bs → list_all (λ (s : SpanView). is_utf8 s.text) (spans style (pieces bs)) ≡ true
unfolding spans pieces_within
utf8-spans n style [] le u = refl
utf8-spans zero style (b ∷ bs) le u = absurd (omega (arith, le))
utf8-spans (suc n) style (b ∷ bs) le u =
    let line = b ∷ bs in
    let end = first_escape line in
    ap (list_all (λ (s : SpanView). is_utf8 s.text)) (spans-step style line)
    ∙ list_all-append (λ (s : SpanView). is_utf8 s.text) (text_spans style (take end line)) (spans (past_escape style (drop end line)).style (pieces (past_escape style (drop end line)).rest))
    ∙ ap₂ (λ v w. v && w)
    (text_spans-are_text style (take end line) (is_utf8-from_IsUtf8 (take end line) (IsUtf8-take line end u (boundary_first_escape line))))
    (utf8-spans n (past_escape style (drop end line)).style (past_escape style (drop end line)).rest
    (let h : length (past_escape style (drop end line)).rest < length line = past_escape-shorter style line (omega arith) in omega (arith, h, le))
    (utf8-past style (drop end line) (AtEscape-first_escape line) (IsUtf8-drop line end u (boundary_first_escape line))))

pub utf8-line : (style : Style) (bs : List ℕ) → IsUtf8 bs → line_is_text (ansi_line style bs) ≡ true
utf8-line style bs u = utf8-spans (length bs) style bs (omega arith) u

utf8-lines : (n : ℕ) (style : Style) (bs : List ℕ) → length bs ≤ n → IsUtf8 bs → is_text (styled style (map pieces (raw_lines bs))) ≡ true
unfolding styled raw_lines
utf8-lines n style [] le u = refl
utf8-lines zero style (b ∷ bs) le u = absurd (omega (arith, le))
utf8-lines (suc n) style (b ∷ bs) le u =
    let text = b ∷ bs in
    let line = take (first_end text) text in
    let rest = drop (first_end text) text in
    let after = after_end rest in
    let rest_utf8 = IsUtf8-drop text (first_end text) u (boundary_first_end text) in
    let after_utf8 = subst IsUtf8 (sym (after_end-drop rest)) (IsUtf8-drop rest (end_length rest) rest_utf8 (boundary_end rest rest_utf8 (AtEnd-first_end text))) in
    let shorter : length after < length text = after_end-shorter text rest after (omega arith) refl refl in
    ap (λ (ls : List (List ℕ)). is_text (styled style (map pieces ls))) (raw_lines-split b bs)
    ∙ ap₂ (λ v w. v && w) (utf8-line style line (IsUtf8-take text (first_end text) u (boundary_first_end text)))
    (utf8-lines n (style_after_line style line) after (omega (arith, shorter, le)) after_utf8)

-- no stretch of a UTF-8 input is anything else
pub utf8-ansi : (style : Style) (bs : List ℕ) → IsUtf8 bs → is_text (ansi_from style bs) ≡ true
unfolding styled
utf8-ansi style [] u = ap (λ v. v && true) (utf8-line style [] u)
utf8-ansi style (b ∷ bs) u = utf8-lines (length (b ∷ bs)) style (b ∷ bs) (omega arith) u

-- an answer for text is not that it is none
pub not_Utf8Error : (lines : List LineView) (answer : Result (List LineView) Error) → is_text lines ≡ true → GivesLines lines answer → answer ≡ Err Utf8Error → ⊥
not_Utf8Error lines answer text gives is =
    let fails = MatchResult-at_err (λ (t : List LineView). (t ≡ lines) × (is_text lines ≡ true)) (λ (e : Error). e ≡ Utf8Error → is_text lines ≡ false) Utf8Error is gives in
    false≢true (sym (fails refl) ∙ text)
