-- Whether a line is text as it goes on.
use Rattle.std.proofs.Common.{◌≡◌, ◌<◌, ◌≤◌, ◌+◌, ◌-◌, ◌==◌, ℕ, zero, suc, Bool, true, false, cond, ◌&&◌, List, [], ◌∷◌, ◌++◌, length, take, drop, map, get_or, refl, ap, ap₂, sym, ◌∙◌, subst, arith, append_assoc, append-nil, length-append, length-drop, Option, Some, None}
use Rattle.std.proofs.lemmas.Bool.{and_parts, eqb-true, false≢true}
use Rattle.std.proofs.lemmas.Bool.Decides.{nat_tests}
use Rattle.std.proofs.Math.Seq.{take-append_seam, take-append-add, take-length, drop-append_seam, drop-length}
use Rattle.std.proofs.lemmas.List.{take-append-le, take-append-drop, length-take-le, drop-append-le}
use Rattle.std.specs.Char.{IsScalar, encode_utf8}
use Rattle.std.proofs.lemmas.Str.{IsUtf8-nil, IsUtf8-append, IsUtf8-drop, IsUtf8-encode, IsCharBoundary-from_take, is_utf8-from_IsUtf8, IsUtf8-from_is_utf8, length-encode, len_utf8_bounds}
use Rattle.std.specs.List.{list_all}
use Rattle.std.specs.Str.{is_utf8, IsUtf8, IsValidUpTo, all_scalars, encode_utf8_all}
use Rattle.term_text.specs.LineEnds.{raw_lines, is_one_line}
use Rattle.term_text.specs.Style.{no_style}
use Rattle.term_text.specs.Text.{SpanView}
use Rattle.term_text.specs.declared.style.Style.{Style}
use Rattle.ansi_text.specs.Sequences.{Sequence, sequence, items}
use Rattle.ansi_text.specs.Pieces.{Piece, sgr, cut, stretch, is_letter, is_bell, beyond, escape_of, escape, pieces, first_escape}
use Rattle.ansi_text.specs.Ansi.{after_sequence, after_pieces, spans, styled, ansi_line, style_after_line, line_is_text, is_text}
use Rattle.std.specs.Option.{option_and_then}
use Rattle.ansi_text.proofs.PieceLemmas.{with_stretch, pieces-escape, pieces-split, pieces-nil}
use Rattle.ansi_text.proofs.LineLemmas.{is_utf8-not}
use Rattle.ansi_feed.specs.declared.pending.Pending.{Pending}
use Rattle.ansi_feed.specs.declared.pending.Pending.TheVariants.{Stretch, Escape, Bracket, Title, Lost}
use Rattle.ansi_feed.specs.declared.pending.Place.{Place}
use Rattle.ansi_feed.specs.Pending.{text_line, pending_text, PassesBytes}
use Rattle.ansi_feed.specs.Feed.{lines_from}
use Rattle.ansi_feed.proofs.EndedLemmas.{raw_lines-front}
use Rattle.ansi_feed.proofs.FeedLemmas.{lines_from-raw}
use Rattle.ansi_feed.proofs.LetterLemmas.{rest-bracket}
use Rattle.ansi_feed.proofs.ReadLemmas.{lines_from-first}

-- ---- whether pieces are text

abbrev pieces_text : Style → List Piece → Bool
pieces_text style ps = list_all (λ (s : SpanView). is_utf8 s.text) (spans style ps)

-- in any style
pieces_text-style : (s t : Style) (ps : List Piece) → pieces_text s ps ≡ pieces_text t ps
unfolding spans
pieces_text-style s t [] = refl
pieces_text-style s t (sgr items ∷ ps) = pieces_text-style (after_sequence s items) (after_sequence t items) ps
pieces_text-style s t (cut ∷ ps) = pieces_text-style s t ps
pieces_text-style s t (stretch text ∷ ps) = ap (λ v. is_utf8 text && v) (pieces_text-style s t ps)

pub text_line-style : (style : Style) (bs : List ℕ) → line_is_text (ansi_line style bs) ≡ text_line bs
text_line-style style bs = pieces_text-style style no_style (pieces bs)

nil_is_utf8 : is_utf8 [] ≡ true
nil_is_utf8 = is_utf8-from_IsUtf8 [] IsUtf8-nil

with_stretch-text : (text : List ℕ) (ps : List Piece) → pieces_text no_style (with_stretch text ps) ≡ (is_utf8 text && pieces_text no_style ps)
unfolding spans
with_stretch-text [] ps = sym (ap (λ v. v && pieces_text no_style ps) nil_is_utf8)
with_stretch-text (b ∷ bs) ps = refl

-- a line is its first stretch and the rest
text_line-split : (bs : List ℕ) → text_line bs ≡ (is_utf8 (take (first_escape bs) bs) && text_line (drop (first_escape bs) bs))
text_line-split bs = ap (pieces_text no_style) (pieces-split bs) ∙ with_stretch-text (take (first_escape bs) bs) (pieces (drop (first_escape bs) bs))

pub text_line-nil : text_line [] ≡ true
unfolding spans
text_line-nil = ap (pieces_text no_style) pieces-nil

-- ---- behind an escape byte

text_line-escape : (bs : List ℕ) → text_line (27 ∷ bs) ≡ text_line (escape bs).rest
unfolding spans
text_line-escape bs = ap (pieces_text no_style) (pieces-escape bs) ∙ go (sequence bs)
  where
    go : (o : Option Sequence) → pieces_text no_style ((escape_of o bs).piece ∷ pieces (escape bs).rest) ≡ pieces_text no_style (pieces (escape bs).rest)
    go None = refl
    go (Some s) = pieces_text-style (after_sequence no_style s.items) no_style (pieces (escape bs).rest)

pub text_line-lone_escape : text_line (27 ∷ []) ≡ true
text_line-lone_escape = text_line-escape [] ∙ text_line-nil

bracket : (bs : List ℕ) → text_line (27 ∷ 91 ∷ bs) ≡ text_line (beyond is_letter bs)
bracket bs = text_line-escape (91 ∷ bs) ∙ ap text_line (rest-bracket bs)

title : (bs : List ℕ) → text_line (27 ∷ 93 ∷ bs) ≡ text_line (beyond is_bell bs)
title bs = text_line-escape (93 ∷ bs)

beyond-nil : (test : ℕ → Bool) → beyond test [] ≡ []
unfolding beyond
beyond-nil test = refl

beyond-step : (test : ℕ → Bool) (v : Bool) (b : ℕ) (bs : List ℕ) → test b ≡ v → beyond test (b ∷ bs) ≡ cond v bs (beyond test bs)
unfolding beyond
beyond-step test v b bs e = ap (λ w. cond w bs (beyond test bs)) e

pub text_line-bracket : text_line (27 ∷ 91 ∷ []) ≡ true
text_line-bracket = bracket [] ∙ ap text_line (beyond-nil is_letter) ∙ text_line-nil

pub text_line-title : text_line (27 ∷ 93 ∷ []) ≡ true
text_line-title = title [] ∙ ap text_line (beyond-nil is_bell) ∙ text_line-nil

pub bracket-step : (v : Bool) (b : ℕ) (bs : List ℕ) → is_letter b ≡ v → text_line (27 ∷ 91 ∷ b ∷ bs) ≡ cond v (text_line bs) (text_line (27 ∷ 91 ∷ bs))
bracket-step true b bs e = bracket (b ∷ bs) ∙ ap text_line (beyond-step is_letter true b bs e)
bracket-step false b bs e = bracket (b ∷ bs) ∙ ap text_line (beyond-step is_letter false b bs e) ∙ sym (bracket bs)

pub title-step : (v : Bool) (b : ℕ) (bs : List ℕ) → is_bell b ≡ v → text_line (27 ∷ 93 ∷ b ∷ bs) ≡ cond v (text_line bs) (text_line (27 ∷ 93 ∷ bs))
title-step true b bs e = title (b ∷ bs) ∙ ap text_line (beyond-step is_bell true b bs e)
title-step false b bs e = title (b ∷ bs) ∙ ap text_line (beyond-step is_bell false b bs e) ∙ sym (title bs)

-- another byte behind it is what follows
pub escape-other : (b : ℕ) (bs : List ℕ) → (b == 91) ≡ false → (b == 93) ≡ false → text_line (27 ∷ b ∷ bs) ≡ text_line (b ∷ bs)
escape-other b bs e f =
    text_line-escape (b ∷ bs)
    ∙ ap text_line (ap (λ o. (escape_of o (b ∷ bs)).rest) (ap (λ v. option_and_then items (cond v (Some bs) None)) e)
    ∙ ap₂ (λ v w. cond v (beyond is_letter bs) (cond w (beyond is_bell bs) (b ∷ bs))) e f)

-- ---- a stretch

-- no escape byte stands there
abbrev pub Whole : List ℕ → Type 0
Whole bs = first_escape bs ≡ length bs

Whole-parts : (b : ℕ) (bs : List ℕ) → Whole (b ∷ bs) → ((b == 27) ≡ false) × Whole bs
unfolding first_escape
Whole-parts b bs h = go (b == 27) refl h
  where
    go : (v : Bool) → (b == 27) ≡ v → cond v 0 (suc (first_escape bs)) ≡ suc (length bs) → ((b == 27) ≡ false) × Whole bs
    go true e k = absurd (omega (arith, k))
    go false e k = (e, omega (arith, k))

stretch-take : (front more : List ℕ) → Whole front → take (first_escape (front ++ more)) (front ++ more) ≡ front ++ take (first_escape more) more
unfolding first_escape
stretch-take [] more h = refl
stretch-take (b ∷ bs) more h =
    let parts = Whole-parts b bs h in
    ap (λ v. take (cond v 0 (suc (first_escape (bs ++ more)))) (b ∷ (bs ++ more))) parts.0 ∙ ap (λ (xs : List ℕ). b ∷ xs) (stretch-take bs more parts.1)

stretch-drop : (front more : List ℕ) → Whole front → drop (first_escape (front ++ more)) (front ++ more) ≡ drop (first_escape more) more
unfolding first_escape
stretch-drop [] more h = refl
stretch-drop (b ∷ bs) more h =
    let parts = Whole-parts b bs h in
    ap (λ v. drop (cond v 0 (suc (first_escape (bs ++ more)))) (b ∷ (bs ++ more))) parts.0 ∙ stretch-drop bs more parts.1

-- bytes in front go to the first stretch
in_front : (front more : List ℕ) → Whole front
    → text_line (front ++ more) ≡ (is_utf8 (front ++ take (first_escape more) more) && text_line (drop (first_escape more) more))
in_front front more h =
    text_line-split (front ++ more) ∙ ap₂ (λ (xs ys : List ℕ). is_utf8 xs && text_line ys) (stretch-take front more h) (stretch-drop front more h)

-- a text in front of others leaves them what they are
utf8-behind : (front more : List ℕ) → IsUtf8 front → IsUtf8 (front ++ more) → IsUtf8 more
utf8-behind front more utf8 u =
    subst IsUtf8 (drop-append_seam front more)
    (IsUtf8-drop (front ++ more) (length front) u
    (IsCharBoundary-from_take (front ++ more) (length front) u (omega (arith, length-append front more)) (subst IsUtf8 (sym (take-append_seam front more)) utf8)))

utf8-in_front : (front more : List ℕ) → IsUtf8 front → is_utf8 (front ++ more) ≡ is_utf8 more
utf8-in_front front more utf8 = go (is_utf8 more) refl
  where
    go : (v : Bool) → is_utf8 more ≡ v → is_utf8 (front ++ more) ≡ v
    go true e = is_utf8-from_IsUtf8 (front ++ more) (IsUtf8-append front more utf8 (IsUtf8-from_is_utf8 more e))
    go false e = is_utf8-not (front ++ more) (λ u. false≢true (sym e ∙ is_utf8-from_IsUtf8 more (utf8-behind front more utf8 u)))

text_in_front : (front more : List ℕ) → Whole front → IsUtf8 front → text_line (front ++ more) ≡ text_line more
text_in_front front more h utf8 =
    in_front front more h ∙ ap (λ v. v && text_line (drop (first_escape more) more)) (utf8-in_front front (take (first_escape more) more) utf8) ∙ sym (text_line-split more)

-- a stretch that an escape byte ends
ended_stretch : (front more : List ℕ) → Whole front → text_line (front ++ 27 ∷ more) ≡ (is_utf8 front && text_line (27 ∷ more))
unfolding first_escape
ended_stretch front more h = in_front front (27 ∷ more) h ∙ ap (λ (xs : List ℕ). is_utf8 xs && text_line (27 ∷ more)) (append-nil front)

-- four bytes that begin no character
no_char : (bs more : List ℕ) (n c : ℕ) (others : List ℕ) → IsValidUpTo bs n → n + 4 ≤ length bs → IsScalar c → encode_utf8 c ++ others ≡ drop n bs ++ more → ⊥
no_char bs more n c others valid few scalar e =
    let k = length (encode_utf8 c) in
    let bounds = len_utf8_bounds c in
    let some : 1 ≤ k = omega (arith, length-encode c, bounds.0) in
    let most : k ≤ 4 = omega (arith, length-encode c, bounds.1) in
    let size : 4 ≤ length (drop n bs) = omega (arith, length-drop n bs, few) in
    let char : take k (drop n bs) ≡ encode_utf8 c =
    sym (take-append-le k (drop n bs) more (omega (arith, most, size))) ∙ sym (ap (λ (xs : List ℕ). take k xs) e) ∙ take-append_seam (encode_utf8 c) others in
    let long : take (n + k) bs ≡ take n bs ++ encode_utf8 c =
    ap (λ (xs : List ℕ). take (n + k) xs) (sym (take-append-drop n bs))
    ∙ ap (λ (m : ℕ). take (m + k) (take n bs ++ drop n bs)) (sym (length-take-le n bs (omega (arith, few))))
    ∙ take-append-add (take n bs) (drop n bs) k ∙ ap (λ (xs : List ℕ). take n bs ++ xs) char in
    valid.longest (n + k) (omega (arith, some)) (subst IsUtf8 (sym long) (IsUtf8-append (take n bs) (encode_utf8 c) valid.front (IsUtf8-encode c scalar)))

no_chars : (bs more : List ℕ) (n : ℕ) (cs : List ℕ) → IsValidUpTo bs n → n + 4 ≤ length bs → all_scalars cs ≡ true → encode_utf8_all cs ≡ drop n bs ++ more → ⊥
no_chars bs more n [] valid few good e =
    let none : 0 ≡ length (drop n bs ++ more) = ap (λ (xs : List ℕ). length xs) e in
    omega (arith, none, length-drop n bs, length-append (drop n bs) more, few)
no_chars bs more n (c ∷ cs) valid few good e = no_char bs more n c (encode_utf8_all cs) valid few (and_parts _ _ good).0 e

no_text : (bs more : List ℕ) (n : ℕ) → IsValidUpTo bs n → n + 4 ≤ length bs → IsUtf8 (bs ++ more) → ⊥
no_text bs more n valid few u =
    let behind = utf8-behind (take n bs) (drop n bs ++ more) valid.front
    (subst IsUtf8 (ap (λ (xs : List ℕ). xs ++ more) (sym (take-append-drop n bs)) ∙ append_assoc (take n bs) (drop n bs) more) u) in
    no_chars bs more n behind.0 valid few behind.1.0 behind.1.1

lost_stretch : (bs more : List ℕ) (n : ℕ) → Whole bs → IsValidUpTo bs n → n + 4 ≤ length bs → text_line (bs ++ more) ≡ false
lost_stretch bs more n h valid few =
    in_front bs more h
    ∙ ap (λ v. v && text_line (drop (first_escape more) more))
    (is_utf8-not (bs ++ take (first_escape more) more) (λ u. no_text bs (take (first_escape more) more) n valid few u))

-- ---- parts of a stretch

Whole-take : (n : ℕ) (bs : List ℕ) → Whole bs → Whole (take n bs)
unfolding first_escape
Whole-take zero bs h = refl
Whole-take (suc n) [] h = refl
Whole-take (suc n) (b ∷ bs) h =
    let parts = Whole-parts b bs h in
    ap (λ v. cond v 0 (suc (first_escape (take n bs)))) parts.0 ∙ ap suc (Whole-take n bs parts.1)

Whole-front : (bs : List ℕ) → Whole (take (first_escape bs) bs)
unfolding first_escape
Whole-front [] = refl
Whole-front (b ∷ bs) = go (b == 27) refl (Whole-front bs)
  where
    go : (v : Bool) → (b == 27) ≡ v → Whole (take (first_escape bs) bs) → Whole (take (cond v 0 (suc (first_escape bs))) (b ∷ bs))
    go true e h = refl
    go false e h = ap (λ v. cond v 0 (suc (first_escape (take (first_escape bs) bs)))) e ∙ ap suc h

at_escape : (bs : List ℕ) → first_escape bs < length bs → take (first_escape bs) bs ++ 27 ∷ drop (suc (first_escape bs)) bs ≡ bs
unfolding first_escape
at_escape [] lt = absurd (omega (arith, lt))
at_escape (b ∷ bs) lt = go (b == 27) refl lt (at_escape bs)
  where
    go : (v : Bool) → (b == 27) ≡ v → cond v 0 (suc (first_escape bs)) < length (b ∷ bs)
        → (first_escape bs < length bs → take (first_escape bs) bs ++ 27 ∷ drop (suc (first_escape bs)) bs ≡ bs)
        → take (cond v 0 (suc (first_escape bs))) (b ∷ bs) ++ 27 ∷ drop (suc (cond v 0 (suc (first_escape bs)))) (b ∷ bs) ≡ b ∷ bs
    go true e lt h = ap (λ (x : ℕ). x ∷ bs) (sym (eqb-true b 27 e))
    go false e lt h = ap (λ (xs : List ℕ). b ∷ xs) (h (omega (arith, lt)))

not_text : (bs : List ℕ) → Whole bs → ¬ (IsUtf8 bs) → text_line bs ≡ false
not_text bs h bad =
    text_line-split bs
    ∙ ap (λ (xs : List ℕ). is_utf8 xs && text_line (drop (first_escape bs) bs)) (ap (λ (n : ℕ). take n bs) h ∙ take-length bs)
    ∙ ap (λ v. v && text_line (drop (first_escape bs) bs)) (is_utf8-not bs bad)

-- ---- bytes that are passed

abbrev pub place : Pending → ℕ → Place
place pending count = record { pending = pending; count = count }

pub passes-whole : (bs : List ℕ) → Whole bs → IsUtf8 bs → PassesBytes Stretch bs (place Stretch (length bs))
passes-whole bs h utf8 =
    record { within = omega arith; same = λ more. text_in_front bs more h utf8 ∙ sym (ap (λ (xs : List ℕ). text_line (xs ++ more)) (drop-length bs)) }

pub passes-part : (bs : List ℕ) (n : ℕ) → Whole bs → IsValidUpTo bs n → PassesBytes Stretch bs (place Stretch n)
passes-part bs n h valid = record {
  within = omega (arith, valid.short);
  same = λ more.
      ap (λ (xs : List ℕ). text_line (xs ++ more)) (sym (take-append-drop n bs)) ∙ ap text_line (append_assoc (take n bs) (drop n bs) more)
      ∙ text_in_front (take n bs) (drop n bs ++ more) (Whole-take n bs h) valid.front;
}

pub part-left : (bs : List ℕ) (n : ℕ) → Whole bs → IsValidUpTo bs n → ¬ (IsUtf8 bs) → text_line (drop n bs) ≡ false
part-left bs n h valid bad =
    sym (text_in_front (take n bs) (drop n bs) (Whole-take n bs h) valid.front) ∙ ap text_line (take-append-drop n bs) ∙ not_text bs h bad

pub passes-lost : (bs : List ℕ) (n : ℕ) → Whole bs → IsValidUpTo bs n → n + 4 ≤ length bs → PassesBytes Stretch bs (place Lost (length bs))
passes-lost bs n h valid few = record { within = omega arith; same = λ more. lost_stretch bs more n h valid few }

pub passes-ended : (bs : List ℕ) (v : Bool) → first_escape bs < length bs → is_utf8 (take (first_escape bs) bs) ≡ v
    → PassesBytes Stretch bs (place (cond v Escape Lost) (suc (first_escape bs)))
passes-ended bs v lt e = record { within = omega (arith, lt); same = λ more. split more ∙ go v e more }
  where
    split : (more : List ℕ) → text_line (bs ++ more) ≡ (is_utf8 (take (first_escape bs) bs) && text_line (27 ∷ (drop (suc (first_escape bs)) bs ++ more)))
    split more =
        ap (λ (xs : List ℕ). text_line (xs ++ more)) (sym (at_escape bs lt))
        ∙ ap text_line (append_assoc (take (first_escape bs) bs) (27 ∷ drop (suc (first_escape bs)) bs) more)
        ∙ ended_stretch (take (first_escape bs) bs) (drop (suc (first_escape bs)) bs ++ more) (Whole-front bs)

    go : (v : Bool) → is_utf8 (take (first_escape bs) bs) ≡ v → (more : List ℕ)
        → (is_utf8 (take (first_escape bs) bs) && text_line (27 ∷ (drop (suc (first_escape bs)) bs ++ more)))
        ≡ pending_text (cond v Escape Lost) (drop (suc (first_escape bs)) bs ++ more)
    go true e more = ap (λ w. w && text_line (27 ∷ (drop (suc (first_escape bs)) bs ++ more))) e
    go false e more = ap (λ w. w && text_line (27 ∷ (drop (suc (first_escape bs)) bs ++ more))) e

-- one byte
pub passes-bracket : (v : Bool) (bs : List ℕ) → 0 < length bs → is_letter (get_or bs 0 0) ≡ v → PassesBytes Bracket bs (place (cond v Stretch Bracket) 1)
passes-bracket v [] some e = absurd (omega (arith, some))
passes-bracket true (b ∷ bs) some e = record { within = omega arith; same = λ more. bracket-step true b (bs ++ more) e }
passes-bracket false (b ∷ bs) some e = record { within = omega arith; same = λ more. bracket-step false b (bs ++ more) e }

pub passes-title : (v : Bool) (bs : List ℕ) → 0 < length bs → is_bell (get_or bs 0 0) ≡ v → PassesBytes Title bs (place (cond v Stretch Title) 1)
passes-title v [] some e = absurd (omega (arith, some))
passes-title true (b ∷ bs) some e = record { within = omega arith; same = λ more. title-step true b (bs ++ more) e }
passes-title false (b ∷ bs) some e = record { within = omega arith; same = λ more. title-step false b (bs ++ more) e }

pub passes-escape : (bs : List ℕ) (p : Place) → 0 < length bs → (get_or bs 0 0 == 91) ≡ false → (get_or bs 0 0 == 93) ≡ false → PassesBytes Stretch bs p → PassesBytes Escape bs p
passes-escape [] p some e f passes = absurd (omega (arith, some))
passes-escape (b ∷ bs) p some e f passes = record { within = passes.within; same = λ more. escape-other b (bs ++ more) e f ∙ passes.same more }

pub passes-ended_as : (bs : List ℕ) (v : Bool) (q : Pending) (n : ℕ) → n ≡ first_escape bs → n ≤ length bs → (n ≡ length bs → ⊥) → v ≡ is_utf8 (take n bs)
    → q ≡ cond v Escape Lost → PassesBytes Stretch bs (place q (n + 1))
passes-ended_as bs v q n is within other utf8 q_is =
    let lt : first_escape bs < length bs = omega (arith, is, within, other) in
    let last : suc (first_escape bs) ≡ n + 1 = omega (arith, is) in
    subst (λ (x : Pending). PassesBytes Stretch bs (place x (n + 1))) (sym q_is)
    (subst (λ (m : ℕ). PassesBytes Stretch bs (place (cond v Escape Lost) m)) last
    (passes-ended bs v lt (ap (λ (m : ℕ). is_utf8 (take m bs)) (sym is) ∙ sym utf8)))

pub passes-bracket_as : (p : Pending) (bs : List ℕ) (v : Bool) (r : Place) → 0 < length bs → p ≡ Bracket → v ≡ is_letter (get_or bs 0 0)
    → r ≡ place (cond v Stretch p) 1 → PassesBytes p bs r
passes-bracket_as p bs v r some is letter r_is =
    subst (λ (x : Place). PassesBytes p bs x) (sym r_is)
    (subst (λ (q : Pending). PassesBytes q bs (place (cond v Stretch q) 1)) (sym is) (passes-bracket v bs some (sym letter)))

pub passes-title_as : (p : Pending) (bs : List ℕ) (v : Bool) (r : Place) → 0 < length bs → p ≡ Title → v ≡ is_bell (get_or bs 0 0)
    → r ≡ place (cond v Stretch p) 1 → PassesBytes p bs r
passes-title_as p bs v r some is bell r_is =
    subst (λ (x : Place). PassesBytes p bs x) (sym r_is)
    (subst (λ (q : Pending). PassesBytes q bs (place (cond v Stretch q) 1)) (sym is) (passes-title v bs some (sym bell)))

-- nothing, and some bytes behind others
pub passes-none : (pending : Pending) (bs : List ℕ) → PassesBytes pending bs (place pending 0)
passes-none pending bs = record { within = omega arith; same = λ more. refl }

-- ---- the end of a line

at_end : (pending : Pending) (bs : List ℕ) (p : Place) → PassesBytes pending bs p → pending_text pending bs ≡ pending_text p.pending (drop p.count bs)
at_end pending bs p passes =
    ap (pending_text pending) (sym (append-nil bs)) ∙ passes.same [] ∙ ap (pending_text p.pending) (append-nil (drop p.count bs))

pub end-lost : (pending : Pending) (bs : List ℕ) (p : Place) → PassesBytes pending bs p → p.pending ≡ Lost → pending_text pending bs ≡ false
end-lost pending bs p passes e = at_end pending bs p passes ∙ ap (λ (o : Pending). pending_text o (drop p.count bs)) e

pub end-left : (pending : Pending) (bs : List ℕ) (p : Place) → PassesBytes pending bs p → pending_text p.pending (drop p.count bs) ≡ false → pending_text pending bs ≡ false
end-left pending bs p passes e = at_end pending bs p passes ∙ e

open_nothing : (pending : Pending) → (pending ≡ Lost → ⊥) → pending_text pending [] ≡ true
open_nothing Stretch kept = text_line-nil
open_nothing Escape kept = text_line-lone_escape
open_nothing Bracket kept = text_line-bracket
open_nothing Title kept = text_line-title
open_nothing Lost kept = absurd (kept refl)

pub end-text : (pending : Pending) (bs : List ℕ) (p : Place) → PassesBytes pending bs p → (p.pending ≡ Lost → ⊥) → p.count ≡ length bs → pending_text pending bs ≡ true
end-text pending bs p passes kept e =
    at_end pending bs p passes ∙ ap (pending_text p.pending) (ap (λ (n : ℕ). drop n bs) e ∙ drop-length bs) ∙ open_nothing p.pending kept

pub end-counted : (pending : Pending) (bs : List ℕ) (p : Place) → PassesBytes pending bs p → (p.pending ≡ Lost → ⊥)
    → (p.count < length bs → pending_text p.pending (drop p.count bs) ≡ false) → (p.count == length bs) ≡ pending_text pending bs
end-counted pending bs p passes kept left = go (p.count == length bs) refl
  where
    go : (v : Bool) → (p.count == length bs) ≡ v → v ≡ pending_text pending bs
    go true e = sym (end-text pending bs p passes kept (eqb-true p.count (length bs) e))
    go false e =
        let within = passes.within in
        let less : p.count < length bs = grind (arith, nat_tests) in
        sym (end-left pending bs p passes (left less))

-- bytes behind those that were looked at
pub passes-behind : (bs more : List ℕ) (p : Place) → PassesBytes Stretch bs p → PassesBytes Stretch (bs ++ more) p
passes-behind bs more p passes = record {
  within = omega (arith, passes.within, length-append bs more);
  same = λ xs.
      ap text_line (append_assoc bs more xs) ∙ passes.same (more ++ xs)
      ∙ ap (pending_text p.pending)
      (sym (append_assoc (drop p.count bs) more xs) ∙ ap (λ (ys : List ℕ). ys ++ xs) (sym (drop-append-le p.count bs more passes.within)));
}

-- ---- lines

is_text-style : (s t : Style) (ls : List (List Piece)) → is_text (styled s ls) ≡ is_text (styled t ls)
unfolding styled
is_text-style s t [] = refl
is_text-style s t (l ∷ ls) = ap₂ (λ v w. v && w) (pieces_text-style s t l) (is_text-style (after_pieces s l) (after_pieces t l) ls)

-- whether lines are text does not depend on the style in which they begin
pub lines_text-style : (s t : Style) (bs : List ℕ) → is_text (lines_from s bs) ≡ is_text (lines_from t bs)
lines_text-style s t bs = ap is_text (lines_from-raw s bs) ∙ is_text-style s t (map pieces (raw_lines bs)) ∙ sym (ap is_text (lines_from-raw t bs))

-- the first line, and the others
pub lines_text-first : (style : Style) (bs line after : List ℕ) → raw_lines bs ≡ line ∷ raw_lines after
    → is_text (lines_from style bs) ≡ (text_line line && is_text (lines_from no_style after))
lines_text-first style bs line after first =
    ap is_text (lines_from-first style bs line after first)
    ∙ ap₂ (λ v w. v && w) (text_line-style style line) (lines_text-style (style_after_line style line) no_style after)

pub lines_text-none : (bs : List ℕ) → length bs ≡ 0 → is_text (lines_from no_style bs) ≡ true
lines_text-none [] e = refl
lines_text-none (b ∷ bs) e = absurd (omega (arith, e))

-- lines of which the first goes on behind bytes that were looked at
pub lines_text-behind : (style : Style) (front bytes first after : List ℕ) (p : Place) (v w : Bool) → PassesBytes Stretch front p → is_one_line front ≡ true
    → raw_lines bytes ≡ first ∷ raw_lines after → v ≡ pending_text p.pending (drop p.count front ++ first) → is_text (lines_from no_style after) ≡ w
    → is_text (lines_from style (front ++ bytes)) ≡ (v && w)
lines_text-behind style front bytes first after p v w passes one lines v_is w_is =
    lines_text-first style (front ++ bytes) (front ++ first) after (raw_lines-front front bytes first after one lines)
    ∙ ap₂ (λ a b. a && b) (passes.same first ∙ sym v_is) w_is
