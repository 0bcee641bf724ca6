-- Lines that are read stretch by stretch.
use Rattle.std.proofs.Common.{◌≡◌, ◌<◌, ◌≤◌, ◌-◌, ◌==◌, ℕ, zero, suc, Bool, true, false, cond, List, [], ◌∷◌, ◌++◌, length, take, drop, get_or, refl, ap, ap₂, sym, ◌∙◌, subst, arith, append_assoc, append-nil, length-drop, take_all, ◌&&◌, Option, Some, None}
use Rattle.std.proofs.lemmas.Bool.{eqb-true, false≢true}
use Rattle.std.proofs.lemmas.Bool.Decides.{nat_tests}
use Rattle.std.proofs.lemmas.Str.{is_utf8-from_IsUtf8, IsUtf8-from_is_utf8, IsUtf8-nil}
use Rattle.std.proofs.lemmas.List.Folds.{list_all-append}
use Rattle.std.specs.List.{list_all}
use Rattle.std.specs.Str.{is_utf8, IsUtf8}
use Rattle.term_text.specs.Style.{no_style}
use Rattle.term_text.specs.Text.{SpanView, LineView}
use Rattle.term_text.specs.declared.style.Style.{Style}
use Rattle.ansi_text.specs.Sequences.{Sequence, sequence}
use Rattle.ansi_text.specs.Pieces.{Piece, escape_of, escape, pieces_within, pieces, first_escape, AtEscape}
use Rattle.ansi_text.specs.Ansi.{after_piece, after_pieces, spans, line_is_text, line_view, ansi_line, style_after_line}
use Rattle.ansi_text.specs.Lines.{plain_span, pushed}
use Rattle.ansi_text.specs.Reads.{StyleRead, past_escape}
use Rattle.ansi_text.proofs.PieceLemmas.{with_stretch, pieces-escape, pieces-split, AtEscape-first_escape, escape-le}

-- the end is the first place with an escape byte
pub first_escape-found : (bs : List ℕ) (k : ℕ) → k < length bs → ((j : ℕ) → j < k → (get_or bs j 0 == 27) ≡ true → ⊥) → (get_or bs k 0 == 27) ≡ true → first_escape bs ≡ k
unfolding first_escape
first_escape-found [] k lt none here = absurd (omega arith)
first_escape-found (b ∷ bs) zero lt none here = ap (λ v. cond v 0 (suc (first_escape bs))) here
first_escape-found (b ∷ bs) (suc k) lt none here =
    go (b == 27) refl (first_escape-found bs k (omega arith) (λ j below is. none (suc j) (omega arith) is) here)
  where
    go : (v : Bool) → (b == 27) ≡ v → first_escape bs ≡ k → cond v 0 (suc (first_escape bs)) ≡ suc k
    go true e ih = absurd (none 0 (omega arith) e)
    go false e ih = ap suc ih

pub first_escape-none : (bs : List ℕ) → ((j : ℕ) → j < length bs → (get_or bs j 0 == 27) ≡ true → ⊥) → first_escape bs ≡ length bs
unfolding first_escape
first_escape-none [] none = refl
first_escape-none (b ∷ bs) none = go (b == 27) refl (first_escape-none bs (λ j below is. none (suc j) (omega arith) is))
  where
    go : (v : Bool) → (b == 27) ≡ v → first_escape bs ≡ length bs → cond v 0 (suc (first_escape bs)) ≡ suc (length bs)
    go true e ih = absurd (none 0 (omega arith) e)
    go false e ih = ap suc ih

-- a span for the text, none where it is empty
abbrev pub text_spans : Style → List ℕ → List SpanView
text_spans style text = cond (length text == 0) [] (plain_span text style ∷ [])

abbrev view_of : List SpanView → Style → LineView
view_of spans style = record { spans = spans; style = style }

not_zero : (n : ℕ) → (suc n == 0) ≡ false
not_zero n = grind (arith, nat_tests)

spans-with_stretch : (style : Style) (text : List ℕ) (ps : List Piece) → spans style (with_stretch text ps) ≡ text_spans style text ++ spans style ps
unfolding spans
spans-with_stretch style [] ps = refl
spans-with_stretch style (b ∷ text) ps = sym (ap (λ v. cond v [] (plain_span (b ∷ text) style ∷ []) ++ spans style ps) (not_zero (length text)))

after-with_stretch : (style : Style) (text : List ℕ) (ps : List Piece) → after_pieces style (with_stretch text ps) ≡ after_pieces style ps
unfolding after_pieces
after-with_stretch style [] ps = refl
after-with_stretch style (b ∷ text) ps = refl

-- at an escape byte, or where nothing is left
spans-piece : (style : Style) (o : Option Sequence) (bs : List ℕ) (ps : List Piece) → spans style ((escape_of o bs).piece ∷ ps) ≡ spans (after_piece style (escape_of o bs).piece) ps
unfolding spans
spans-piece style None bs ps = refl
spans-piece style (Some s) bs ps = refl

spans-past : (style : Style) (bs : List ℕ) → AtEscape bs → spans style (pieces bs) ≡ spans (past_escape style bs).style (pieces (past_escape style bs).rest)
spans-past style [] e = refl
spans-past style (b ∷ bs) e =
    ap (λ (x : ℕ). spans style (pieces (x ∷ bs))) (eqb-true b 27 e) ∙ ap (spans style) (pieces-escape bs)
    ∙ spans-piece style (sequence bs) bs (pieces (escape bs).rest)

after-past : (style : Style) (bs : List ℕ) → AtEscape bs → after_pieces style (pieces bs) ≡ after_pieces (past_escape style bs).style (pieces (past_escape style bs).rest)
unfolding after_pieces
after-past style [] e = refl
after-past style (b ∷ bs) e = ap (λ (x : ℕ). after_pieces style (pieces (x ∷ bs))) (eqb-true b 27 e) ∙ ap (after_pieces style) (pieces-escape bs)

-- a line goes on after its first stretch and the escape behind it
pub spans-step : (style : Style) (bs : List ℕ)
    → spans style (pieces bs)
    ≡ text_spans style (take (first_escape bs) bs) ++ spans (past_escape style (drop (first_escape bs) bs)).style (pieces (past_escape style (drop (first_escape bs) bs)).rest)
spans-step style bs =
    ap (spans style) (pieces-split bs) ∙ spans-with_stretch style (take (first_escape bs) bs) (pieces (drop (first_escape bs) bs))
    ∙ ap (λ (ss : List SpanView). text_spans style (take (first_escape bs) bs) ++ ss) (spans-past style (drop (first_escape bs) bs) (AtEscape-first_escape bs))

pub after-step : (style : Style) (bs : List ℕ)
    → after_pieces style (pieces bs) ≡ after_pieces (past_escape style (drop (first_escape bs) bs)).style (pieces (past_escape style (drop (first_escape bs) bs)).rest)
after-step style bs =
    ap (after_pieces style) (pieces-split bs) ∙ after-with_stretch style (take (first_escape bs) bs) (pieces (drop (first_escape bs) bs))
    ∙ after-past style (drop (first_escape bs) bs) (AtEscape-first_escape bs)

pub past_escape-shorter : (style : Style) (bs : List ℕ) → 0 < length bs → length (past_escape style (drop (first_escape bs) bs)).rest < length bs
past_escape-shorter style bs lt = go (drop (first_escape bs) bs) (omega (arith, length-drop (first_escape bs) bs))
  where
    go : (xs : List ℕ) → length xs ≤ length bs → length (past_escape style xs).rest < length bs
    go [] h = lt
    go (x ∷ xs) h = omega (arith, h, escape-le xs)

-- what was read of a line: its spans so far, the style, and what is left
pub record Reads (begun : Style) (bytes : List ℕ) (line : LineView) (style : Style) (rest : List ℕ) : Type 0 where
  pub plain : line.style ≡ no_style
  pub are_spans : line.spans ++ spans style (pieces rest) ≡ spans begun (pieces bytes)
  pub style_is : after_pieces style (pieces rest) ≡ after_pieces begun (pieces bytes)
  pub are_text : line_is_text line ≡ true

pub Reads-start : (begun : Style) (bytes : List ℕ) (line : LineView) → line ≡ line_view [] → Reads begun bytes line begun bytes
Reads-start begun bytes line e =
    subst (λ (x : LineView). Reads begun bytes x begun bytes) (sym e) (record { plain = refl; are_spans = refl; style_is = refl; are_text = refl })

pub text_spans-are_text : (style : Style) (text : List ℕ) → is_utf8 text ≡ true → list_all (λ (s : SpanView). is_utf8 s.text) (text_spans style text) ≡ true
text_spans-are_text style text e = elim (length text == 0) as (λ v. list_all (λ (s : SpanView). is_utf8 s.text) (cond v [] (plain_span text style ∷ [])) ≡ true) [
  | true ↦ refl
  | false ↦ ap (λ v. v && true) e
]

pushed-spans : (line : LineView) (style : Style) (text : List ℕ) → (pushed line style text).spans ≡ line.spans ++ text_spans style text
pushed-spans line style text = elim (length text == 0) as (λ v. cond v line.spans (line.spans ++ plain_span text style ∷ []) ≡ line.spans ++ cond v [] (plain_span text style ∷ [])) [
  | true ↦ sym (append-nil line.spans)
  | false ↦ refl
]

-- a stretch and the escape behind it
pub Reads-step : (begun : Style) (bytes : List ℕ) (line more : LineView) (style : Style) (rest text : List ℕ) (after : StyleRead)
    → Reads begun bytes line style rest → text ≡ take (first_escape rest) rest → more ≡ pushed line style text → is_utf8 text ≡ true
    → after ≡ past_escape style (drop (first_escape rest) rest) → Reads begun bytes more after.style after.rest
Reads-step begun bytes line more style rest text after reads text_is more_is utf8 after_is =
    subst (λ (a : StyleRead). Reads begun bytes more a.style a.rest) (sym after_is)
    (subst (λ (x : LineView). Reads begun bytes x past.style past.rest) (sym more_is) (record {
      plain = reads.plain;
      are_spans =
          ap (λ (ss : List SpanView). ss ++ spans past.style (pieces past.rest)) (pushed-spans line style text)
          ∙ append_assoc line.spans (text_spans style text) (spans past.style (pieces past.rest))
          ∙ ap (λ (ss : List SpanView). line.spans ++ ss)
          (ap (λ (t : List ℕ). text_spans style t ++ spans past.style (pieces past.rest)) text_is ∙ sym (spans-step style rest))
          ∙ reads.are_spans;
      style_is = sym (after-step style rest) ∙ reads.style_is;
      are_text =
          ap (list_all (λ (s : SpanView). is_utf8 s.text)) (pushed-spans line style text)
          ∙ list_all-append (λ (s : SpanView). is_utf8 s.text) line.spans (text_spans style text)
          ∙ ap₂ (λ u v. u && v) reads.are_text (text_spans-are_text style text utf8);
    }))
  where
    past : StyleRead
    past = past_escape style (drop (first_escape rest) rest)

-- nothing is left
pub Reads-end : (begun : Style) (bytes : List ℕ) (line : LineView) (style : Style) (rest : List ℕ) → Reads begun bytes line style rest → length rest ≡ 0
    → (line ≡ ansi_line begun bytes) × (style ≡ style_after_line begun bytes) × (line_is_text (ansi_line begun bytes) ≡ true)
unfolding pieces_within spans after_pieces
Reads-end begun bytes line style [] reads e =
    let same : line ≡ ansi_line begun bytes = ap₂ (λ (ss : List SpanView) (st : Style). view_of ss st) (sym (append-nil line.spans) ∙ reads.are_spans) reads.plain in
    (same, reads.style_is, sym (ap line_is_text same) ∙ reads.are_text)
Reads-end begun bytes line style (b ∷ rest) reads e = absurd (omega (arith, e))

-- a stretch that is not UTF-8
pub bad_spans : (style : Style) (text : List ℕ) → is_utf8 text ≡ false → list_all (λ (s : SpanView). is_utf8 s.text) (text_spans style text) ≡ false
bad_spans style [] bad = absurd (false≢true (sym bad ∙ is_utf8-from_IsUtf8 [] IsUtf8-nil))
bad_spans style (b ∷ text) bad =
    ap (λ v. list_all (λ (s : SpanView). is_utf8 s.text) (cond v [] (plain_span (b ∷ text) style ∷ []))) (not_zero (length text)) ∙ ap (λ v. v && true) bad

pub Reads-bad : (begun : Style) (bytes : List ℕ) (line : LineView) (style : Style) (rest text : List ℕ) → Reads begun bytes line style rest
    → text ≡ take (first_escape rest) rest → is_utf8 text ≡ false → line_is_text (ansi_line begun bytes) ≡ false
Reads-bad begun bytes line style rest text reads text_is bad =
    ap (list_all (λ (s : SpanView). is_utf8 s.text)) (sym reads.are_spans ∙ ap (λ (ss : List SpanView). line.spans ++ ss) (spans-step style rest))
    ∙ list_all-append (λ (s : SpanView). is_utf8 s.text) line.spans (text_spans style (take (first_escape rest) rest) ++ more)
    ∙ ap₂ (λ u v. u && v) reads.are_text
    (list_all-append (λ (s : SpanView). is_utf8 s.text) (text_spans style (take (first_escape rest) rest)) more
    ∙ ap (λ v. v && list_all (λ (s : SpanView). is_utf8 s.text) more)
    (bad_spans style (take (first_escape rest) rest) (sym (ap is_utf8 text_is) ∙ bad)))
  where
    more : List SpanView
    more = spans (past_escape style (drop (first_escape rest) rest)).style (pieces (past_escape style (drop (first_escape rest) rest)).rest)

-- bytes that are not UTF-8 fail the test
pub is_utf8-not : (bs : List ℕ) → ¬ (IsUtf8 bs) → is_utf8 bs ≡ false
is_utf8-not bs h = go (is_utf8 bs) refl
  where
    go : (v : Bool) → is_utf8 bs ≡ v → v ≡ false
    go true e = absurd (h (IsUtf8-from_is_utf8 bs e))
    go false e = refl

-- the slice from n on
pub take-rest : (n : ℕ) (xs : List ℕ) → take (length xs - n) (drop n xs) ≡ drop n xs
take-rest n xs = take_all (length xs - n) (drop n xs) (omega (arith, length-drop n xs))
