-- Text: where no rule fits.
use Rattle.std.proofs.Common.{List, [], ◌∷◌, length, drop, get_or, ◌≡◌, ◌≤◌, ◌<◌, ◌+◌, ◌==◌, ℕ, suc, refl, sym, ap, subst, ◌∙◌, arith, Bool, true, false, ◌&&◌, ◌||◌, cond, Option, Some, None, is_some, add-zero, zero-add}
use Rattle.std.specs.Option.{option_or}
use Rattle.std.specs.List.{prefix_len, slice_index}
use Rattle.std.proofs.lemmas.Bool.{false≢true}
use Rattle.std.proofs.lemmas.Bool.Decides.{nat_tests}
use Rattle.std.proofs.lemmas.List.{drop_more, drop_all}
use Rattle.term_text.specs.LineEnds.{ends_line}
use Rattle.md_lines.specs.Blanks.{is_blank}
use Rattle.md_leaves.specs.declared.cut.Cut.{Cut}
use Rattle.md_leaves.specs.declared.leaf.Mark.{Mark}
use Rattle.md_leaves.specs.Angles.{angle}
use Rattle.md_leaves.specs.Code.{is_tick, code_or_text, run_end}
use Rattle.md_leaves.specs.Math.{is_dollar}
use Rattle.md_leaves.specs.Runs.{mark_of, run, run_of}
use Rattle.md_leaves.proofs.RunLemmas.{same_byte}
use Rattle.md_leaves.specs.Leaves.{break_of, escape, line_end, opener, reference, marked, text_length}
use Rattle.md_leaves.specs.Steps.{is_letter, text_step}

-- a byte is this one, or it is another
by_test : (P : ℕ → Type 0) (b k : ℕ) (v : Bool) → (b == k) ≡ v → P k → ((b == k) ≡ false → P b) → P b
by_test P b k true e here other = subst P (sym (same_byte b k e)) here
by_test P b k false e here other = other e

or-none : {A : Type 0} (o : Option A) → option_or o None ≡ o
or-none None = refl
or-none (Some x) = refl

or-false : (v w : Bool) → (v || w) ≡ false → (v ≡ false) × (w ≡ false)
or-false true w e = absurd (false≢true (sym e))
or-false false w e = (refl, e)

not_none : {A : Type 0} (o : Option A) → is_some o ≡ false → o ≡ None
not_none None e = refl
not_none (Some x) e = absurd (false≢true (sym e))

pub both_true : (v w : Bool) → (v && w) ≡ true → (v ≡ true) × (w ≡ true)
both_true true w e = (refl, e)
both_true false w e = absurd (false≢true e)

-- of each of these bytes but few it takes the next ones to know whether a rule fits
abbrev pub always : ℕ → Bool
always b = ((ends_line b || is_tick b) || is_dollar b) || ((b == 91 || b == 93) || is_some (mark_of b))

is_blank-cases : (P : ℕ → Type 0) (b : ℕ) → is_blank b ≡ true → P 32 → P 9 → P b
is_blank-cases P b is space tab =
    by_test P b 32 (b == 32) refl space
    (λ other. by_test P b 9 (b == 9) refl tab
    (λ more. absurd (false≢true (let none : is_blank b ≡ false = rw (other, more) refl in sym none ∙ is))))

always-cases : (P : ℕ → Type 0) (b : ℕ) → always b ≡ true → P 10 → P 13 → P 96 → P 36 → P 91 → P 93 → P 42 → P 95 → P 126 → P 94 → P b
always-cases P b is lf cr tick dollar opens closes star under tilde caret =
    by_test P b 10 (b == 10) refl lf
    (λ h1. by_test P b 13 (b == 13) refl cr
    (λ h2. by_test P b 96 (b == 96) refl tick
    (λ h3. by_test P b 36 (b == 36) refl dollar
    (λ h10. by_test P b 91 (b == 91) refl opens
    (λ h4. by_test P b 93 (b == 93) refl closes
    (λ h5. by_test P b 42 (b == 42) refl star
    (λ h6. by_test P b 95 (b == 95) refl under
    (λ h7. by_test P b 126 (b == 126) refl tilde
    (λ h8. by_test P b 94 (b == 94) refl caret
    (λ h9. absurd (false≢true (let none : always b ≡ false = rw (h1, h2, h3, h10, h4, h5, h6, h7, h8, h9) refl in sym none ∙ is))))))))))))

marked-blank : (source bs : List ℕ) (at b : ℕ) → is_blank b ≡ true → marked source at (b ∷ bs) ≡ line_end (b ∷ bs)
marked-blank source bs at b is =
    is_blank-cases (λ x. marked source at (x ∷ bs) ≡ line_end (x ∷ bs)) b is (or-none (line_end (32 ∷ bs))) (or-none (line_end (9 ∷ bs)))

marked-escape : (source bs : List ℕ) (at : ℕ) → marked source at (92 ∷ bs) ≡ escape (92 ∷ bs)
marked-escape source bs at = or-none (escape (92 ∷ bs))

marked-bang : (source bs : List ℕ) (at : ℕ) → marked source at (33 ∷ bs) ≡ opener (33 ∷ bs)
marked-bang source bs at = or-none (opener (33 ∷ bs))

marked-angle : (source bs : List ℕ) (at : ℕ) → marked source at (60 ∷ bs) ≡ angle (60 ∷ bs)
marked-angle source bs at = or-none (angle (60 ∷ bs))

positive : (n : ℕ) → (1 + n == 0) ≡ false
positive n = grind (arith, nat_tests)

marked-tick : (source bs : List ℕ) (at : ℕ) → is_some (marked source at (96 ∷ bs)) ≡ true
marked-tick source bs at =
    let n : ℕ = 1 + prefix_len is_tick bs in
    ap (λ v. is_some (option_or (cond v None (Some (code_or_text n (run_end n 0 (drop n (96 ∷ bs)))))) None)) (positive (prefix_len is_tick bs))

some-either : {A : Type 0} (v : Bool) (x y : A) → is_some (option_or (cond v (Some x) (Some y)) None) ≡ true
some-either true x y = refl
some-either false x y = refl

marked-dollar : (source bs : List ℕ) (at : ℕ) → is_some (marked source at (36 ∷ bs)) ≡ true
marked-dollar source bs at = some-either (is_dollar (get_or bs 0 0)) _ _

some-last : {A : Type 0} (o : Option A) (x : A) → is_some (option_or o (Some x)) ≡ true
some-last None x = refl
some-last (Some y) x = refl

marked-opener : (source bs : List ℕ) (at : ℕ) → is_some (marked source at (91 ∷ bs)) ≡ true
marked-opener source bs at = some-last (reference (91 ∷ bs)) _

marked-closer : (source bs : List ℕ) (at : ℕ) → is_some (marked source at (93 ∷ bs)) ≡ true
marked-closer source bs at = some-either (get_or bs 0 0 == 40) _ _

-- a rule fits at each of these bytes
pub marked-always : (source bs : List ℕ) (at b : ℕ) → always b ≡ true → is_some (marked source at (b ∷ bs)) ≡ true
marked-always source bs at b is =
    always-cases (λ x. is_some (marked source at (x ∷ bs)) ≡ true) b is refl refl (marked-tick source bs at) (marked-dollar source bs at) (marked-opener source bs at) (marked-closer source bs at) refl refl refl refl

-- and at no other byte but a blank, a backslash, `!` and `<`
pub marked-plain : (source bs : List ℕ) (at b : ℕ) → is_blank b ≡ false → (b == 92) ≡ false → (b == 33) ≡ false → (b == 60) ≡ false
    → always b ≡ false → marked source at (b ∷ bs) ≡ None
marked-plain source bs at b blank slash bang less other =
    let split = or-false ((ends_line b || is_tick b) || is_dollar b) ((b == 91 || b == 93) || is_some (mark_of b)) other in
    let dollars = or-false (ends_line b || is_tick b) (is_dollar b) split.0 in
    let dollar = dollars.1 in
    let left = or-false (ends_line b) (is_tick b) dollars.0 in
    let right = or-false (b == 91 || b == 93) (is_some (mark_of b)) split.1 in
    let brackets = or-false (b == 91) (b == 93) right.0 in
    let mark = not_none (mark_of b) right.1 in
    let e1 = left.0 in let e2 = left.1 in let e3 = brackets.0 in let e4 = brackets.1 in
    rw (slash, blank, e1, e2, dollar, less, bang, e3, e4, mark)

-- how far a step over text goes, and that none is made where a rule fits
pub record IsStep (source : List ℕ) (at : ℕ) (bs : List ℕ) (n : ℕ) : Type 0 where
  pub goes : text_length source at bs ≡ n + text_length source (at + n) (drop n bs)
  pub stops : n ≡ 0 → text_length source at bs ≡ 0

pub text_length-marked : (source bs : List ℕ) (at b : ℕ) (v : Bool) → is_some (marked source at (b ∷ bs)) ≡ v → text_length source at (b ∷ bs) ≡ cond v 0 (suc (text_length source (at + 1) bs))
unfolding text_length
text_length-marked source bs at b v e = ap (λ w. cond w 0 (suc (text_length source (at + 1) bs))) e

step-fits : (source bs : List ℕ) (at b : ℕ) (v : Bool) → is_some (marked source at (b ∷ bs)) ≡ v → IsStep source at (b ∷ bs) (cond v 0 1)
step-fits source bs at b true e =
    let none : text_length source at (b ∷ bs) ≡ 0 = text_length-marked source bs at b true e in
    record { goes = ap (λ k. text_length source k (b ∷ bs)) (sym (add-zero at)) ∙ sym (zero-add (text_length source (at + 0) (b ∷ bs))); stops = λ z. none }
step-fits source bs at b false e = record {
  goes = text_length-marked source bs at b false e ∙ omega arith;
  stops = λ z. absurd (omega arith);
}

-- whether a line end follows blanks
line_end-some : (bs : List ℕ) → is_some (line_end bs) ≡ ends_line (slice_index bs (prefix_len is_blank bs))
line_end-some bs = go (ends_line (slice_index bs (prefix_len is_blank bs))) (let cut : Cut = record { kind = break_of (prefix_len is_blank bs); more = prefix_len is_blank bs } in cut)
  where
    go : (v : Bool) (cut : Cut) → is_some (cond v (Some cut) None) ≡ v
    go true cut = refl
    go false cut = refl

text_length-blanks : (source bs : List ℕ) (at : ℕ) → ends_line (slice_index bs (prefix_len is_blank bs)) ≡ false → text_length source at bs ≡ prefix_len is_blank bs + text_length source (at + prefix_len is_blank bs) (drop (prefix_len is_blank bs) bs)
unfolding text_length
text_length-blanks source [] at plain = refl
text_length-blanks source (b ∷ bs) at plain = go (is_blank b) refl plain (text_length-blanks source bs (at + 1))
  where
    go : (v : Bool) → is_blank b ≡ v → ends_line (slice_index (b ∷ bs) (cond v (1 + prefix_len is_blank bs) 0)) ≡ false → (ends_line (slice_index bs (prefix_len is_blank bs)) ≡ false → text_length source (at + 1) bs ≡ prefix_len is_blank bs + text_length source (at + 1 + prefix_len is_blank bs) (drop (prefix_len is_blank bs) bs)) → text_length source at (b ∷ bs) ≡ cond v (1 + prefix_len is_blank bs) 0 + text_length source (at + cond v (1 + prefix_len is_blank bs) 0) (drop (cond v (1 + prefix_len is_blank bs) 0) (b ∷ bs))
    go true is here rest =
        let n : ℕ = prefix_len is_blank bs in
        let one : 1 + n ≡ suc n = omega arith in
        let next : ends_line (slice_index bs n) ≡ false = ap (λ k. ends_line (get_or (b ∷ bs) k 0)) (sym one) ∙ here in
        let none : is_some (marked source at (b ∷ bs)) ≡ false = ap is_some (marked-blank source bs at b is) ∙ (line_end-some (b ∷ bs) ∙ plain) in
        let place : at + 1 + n ≡ at + (1 + n) = omega arith in
        let after : text_length source (at + 1 + n) (drop n bs) ≡ text_length source (at + (1 + n)) (drop (1 + n) (b ∷ bs)) = ap (λ k. text_length source k (drop n bs)) place ∙ ap (λ k. text_length source (at + (1 + n)) (drop k (b ∷ bs))) (sym one) in
        text_length-marked source bs at b false none ∙ (ap suc (rest next) ∙ (ap (λ x. suc (n + x)) after ∙ omega arith))
    go false is here rest = ap (λ k. text_length source k (b ∷ bs)) (sym (add-zero at)) ∙ sym (zero-add (text_length source (at + 0) (b ∷ bs)))

step-blank : (source bs : List ℕ) (at b : ℕ) (v : Bool) → is_blank b ≡ true → ends_line (slice_index (b ∷ bs) (prefix_len is_blank (b ∷ bs))) ≡ v → IsStep source at (b ∷ bs) (cond v 0 (prefix_len is_blank (b ∷ bs)))
step-blank source bs at b true is e = step-fits source bs at b true (ap is_some (marked-blank source bs at b is) ∙ (line_end-some (b ∷ bs) ∙ e))
step-blank source bs at b false is e = record {
  goes = text_length-blanks source (b ∷ bs) at e;
  stops = λ z. absurd (let none : 1 + prefix_len is_blank bs ≡ 0 = ap (λ v. cond v (1 + prefix_len is_blank bs) 0) (sym is) ∙ z in omega arith);
}

-- letters are text
pub marked-letter : (source bs : List ℕ) (at b : ℕ) → is_letter b ≡ true → marked source at (b ∷ bs) ≡ None
marked-letter source bs at b is =
    let blank : is_blank b ≡ false = grind (arith, nat_tests) in
    let slash : (b == 92) ≡ false = grind (arith, nat_tests) in
    let bang : (b == 33) ≡ false = grind (arith, nat_tests) in
    let less : (b == 60) ≡ false = grind (arith, nat_tests) in
    let other : always b ≡ false = grind (arith, nat_tests) in
    marked-plain source bs at b blank slash bang less other

text_length-letters : (source bs : List ℕ) (at : ℕ) → text_length source at bs ≡ prefix_len is_letter bs + text_length source (at + prefix_len is_letter bs) (drop (prefix_len is_letter bs) bs)
unfolding text_length
text_length-letters source [] at = refl
text_length-letters source (b ∷ bs) at = go (is_letter b) refl (text_length-letters source bs (at + 1))
  where
    go : (v : Bool) → is_letter b ≡ v → text_length source (at + 1) bs ≡ prefix_len is_letter bs + text_length source (at + 1 + prefix_len is_letter bs) (drop (prefix_len is_letter bs) bs) → text_length source at (b ∷ bs) ≡ cond v (1 + prefix_len is_letter bs) 0 + text_length source (at + cond v (1 + prefix_len is_letter bs) 0) (drop (cond v (1 + prefix_len is_letter bs) 0) (b ∷ bs))
    go true is rest =
        let n : ℕ = prefix_len is_letter bs in
        let one : 1 + n ≡ suc n = omega arith in
        let place : at + 1 + n ≡ at + (1 + n) = omega arith in
        let after : text_length source (at + 1 + n) (drop n bs) ≡ text_length source (at + (1 + n)) (drop (1 + n) (b ∷ bs)) = ap (λ k. text_length source k (drop n bs)) place ∙ ap (λ k. text_length source (at + (1 + n)) (drop k (b ∷ bs))) (sym one) in
        text_length-marked source bs at b false (ap is_some (marked-letter source bs at b is)) ∙ (ap suc rest ∙ (ap (λ x. suc (n + x)) after ∙ omega arith))
    go false is rest = ap (λ k. text_length source k (b ∷ bs)) (sym (add-zero at)) ∙ sym (zero-add (text_length source (at + 0) (b ∷ bs)))

-- a byte that is text, and the letters behind it
step-plain : (source bs : List ℕ) (at b : ℕ) → marked source at (b ∷ bs) ≡ None → IsStep source at (b ∷ bs) (1 + prefix_len is_letter bs)
step-plain source bs at b none =
    let n : ℕ = prefix_len is_letter bs in
    let place : at + 1 + n ≡ at + (1 + n) = omega arith in
    let one : suc n ≡ 1 + n = omega arith in
    let after : text_length source (at + 1 + n) (drop n bs) ≡ text_length source (at + (1 + n)) (drop (1 + n) (b ∷ bs)) = ap (λ k. text_length source k (drop n bs)) place ∙ ap (λ k. text_length source (at + (1 + n)) (drop k (b ∷ bs))) one in
    record {
      goes = text_length-marked source bs at b false (ap is_some none) ∙ (ap suc (text_length-letters source bs (at + 1)) ∙ (ap (λ x. suc (n + x)) after ∙ omega arith));
      stops = λ z. absurd (omega arith);
    }

text_step-is : (source bs : List ℕ) (at b : ℕ) → IsStep source at (b ∷ bs) (text_step (b ∷ bs))
text_step-is source bs at b = blanks (is_blank b) refl
  where
    blank_step : ℕ
    blank_step = cond (ends_line (slice_index (b ∷ bs) (prefix_len is_blank (b ∷ bs)))) 0 (prefix_len is_blank (b ∷ bs))

    escape_step : ℕ
    escape_step = cond (is_some (escape (b ∷ bs))) 0 1

    opener_step : ℕ
    opener_step = cond (is_some (opener (b ∷ bs))) 0 1

    angle_step : ℕ
    angle_step = cond (is_some (angle (b ∷ bs))) 0 1

    plain_step : ℕ
    plain_step = cond (always b) 0 (1 + prefix_len is_letter bs)

    others : (v : Bool) → always b ≡ v → is_blank b ≡ false → (b == 92) ≡ false → (b == 33) ≡ false → (b == 60) ≡ false
        → IsStep source at (b ∷ bs) (cond v 0 (1 + prefix_len is_letter bs))
    others true e blank slash bang less = step-fits source bs at b true (marked-always source bs at b e)
    others false e blank slash bang less = step-plain source bs at b (marked-plain source bs at b blank slash bang less e)

    angles : (v : Bool) → (b == 60) ≡ v → is_blank b ≡ false → (b == 92) ≡ false → (b == 33) ≡ false
        → IsStep source at (b ∷ bs) (cond v angle_step plain_step)
    angles true e blank slash bang = subst (λ x. IsStep source at (x ∷ bs) (cond (is_some (angle (x ∷ bs))) 0 1)) (sym (same_byte b 60 e)) (step-fits source bs at 60 (is_some (angle (60 ∷ bs))) (ap is_some (marked-angle source bs at)))
    angles false e blank slash bang = others (always b) refl blank slash bang e

    bangs : (v : Bool) → (b == 33) ≡ v → is_blank b ≡ false → (b == 92) ≡ false
        → IsStep source at (b ∷ bs) (cond v opener_step (cond (b == 60) angle_step plain_step))
    bangs true e blank slash = subst (λ x. IsStep source at (x ∷ bs) (cond (is_some (opener (x ∷ bs))) 0 1)) (sym (same_byte b 33 e)) (step-fits source bs at 33 (is_some (opener (33 ∷ bs))) (ap is_some (marked-bang source bs at)))
    bangs false e blank slash = angles (b == 60) refl blank slash e

    slashes : (v : Bool) → (b == 92) ≡ v → is_blank b ≡ false
        → IsStep source at (b ∷ bs) (cond v escape_step (cond (b == 33) opener_step (cond (b == 60) angle_step plain_step)))
    slashes true e blank = subst (λ x. IsStep source at (x ∷ bs) (cond (is_some (escape (x ∷ bs))) 0 1)) (sym (same_byte b 92 e)) (step-fits source bs at 92 (is_some (escape (92 ∷ bs))) (ap is_some (marked-escape source bs at)))
    slashes false e blank = bangs (b == 33) refl blank e

    blanks : (v : Bool) → is_blank b ≡ v
        → IsStep source at (b ∷ bs) (cond v blank_step (cond (b == 92) escape_step (cond (b == 33) opener_step (cond (b == 60) angle_step plain_step))))
    blanks true e = step-blank source bs at b (ends_line (slice_index (b ∷ bs) (prefix_len is_blank (b ∷ bs)))) e refl
    blanks false e = slashes (b == 92) refl e

pub text_step-at : (source : List ℕ) (at n : ℕ) → at < length source → n ≡ text_step (drop at source) → IsStep source at (drop at source) n
text_step-at source at n lt is =
    let e = drop_more source at 0 lt in
    subst (IsStep source at (drop at source)) (sym is)
    (subst (λ x. IsStep source at x (text_step x)) (sym e) (text_step-is source (drop (at + 1) source) at (get_or source at 0)))

pub text_length-end : (source : List ℕ) (at : ℕ) → length source ≤ at → text_length source at (drop at source) ≡ 0
unfolding text_length
text_length-end source at le = ap (text_length source at) (drop_all at source le)

-- at most one of these rules fits
line_end-none : (b : ℕ) (bs : List ℕ) → is_blank b ≡ false → ends_line b ≡ false → line_end (b ∷ bs) ≡ None
line_end-none b bs blank plain =
    not_none (line_end (b ∷ bs)) (line_end-some (b ∷ bs) ∙ (ap (λ v. ends_line (slice_index (b ∷ bs) (cond v (1 + prefix_len is_blank bs) 0))) blank ∙ plain))

or-swapped : (end first : Option Cut) → end ≡ None → option_or end first ≡ option_or first end
or-swapped end first none = ap (λ o. option_or o first) none ∙ (sym (or-none first) ∙ ap (option_or first) (sym none))

last-rules : (source bs : List ℕ) (at b : ℕ) → option_or (line_end (b ∷ bs)) (option_or (opener (b ∷ bs)) (run source at (b ∷ bs))) ≡ option_or (option_or (opener (b ∷ bs)) (run source at (b ∷ bs))) (line_end (b ∷ bs))
last-rules source bs at b = go (b == 33) (b == 91) refl refl (mark_of b) refl
  where
    end : Option Cut
    end = line_end (b ∷ bs)

    others : Option Cut
    others = option_or (opener (b ∷ bs)) (run source at (b ∷ bs))

    swapped : is_blank b ≡ false → ends_line b ≡ false → option_or end others ≡ option_or others end
    swapped blank plain = or-swapped end others (line_end-none b bs blank plain)

    go : (bang bracket : Bool) → (b == 33) ≡ bang → (b == 91) ≡ bracket → (found : Option Mark) → mark_of b ≡ found → option_or end others ≡ option_or others end
    go true bracket e f found m = swapped (grind (arith, nat_tests)) (grind (arith, nat_tests))
    go false true e f found m = swapped (grind (arith, nat_tests)) (grind (arith, nat_tests))
    go false false e f (Some mark) m = swapped (grind (arith, nat_tests)) (grind (arith, nat_tests))
    go false false e f None m =
        let none : others ≡ None = rw (e, f) (ap (run_of source at (b ∷ bs) (prefix_len (λ x. x == b) (b ∷ bs))) m) in
        ap (option_or end) none ∙ (or-none end ∙ sym (ap (λ o. option_or o end) none))

other_byte : (b k : ℕ) → (b ≡ k → ⊥) → (b == k) ≡ false
other_byte b k other = grind (arith, nat_tests)

-- where the first byte is none of these, an opener, a run or the end of a line may stand
pub marked-rest : (source : List ℕ) (at b : ℕ) → at < length source → get_or source at 0 ≡ b → (b ≡ 92 → ⊥) → (b ≡ 96 → ⊥) → (b ≡ 93 → ⊥) → (b ≡ 36 → ⊥) → (b ≡ 60 → ⊥) → (b ≡ 91 → ⊥) → marked source at (drop at source) ≡ option_or (option_or (opener (drop at source)) (run source at (drop at source))) (line_end (drop at source))
marked-rest source at b lt is no_slash no_tick no_closer no_dollar no_angle no_opener =
    let bs : List ℕ = drop (at + 1) source in
    let e : drop at source ≡ b ∷ bs = drop_more source at 0 lt ∙ ap (λ x. x ∷ bs) is in
    let slash = other_byte b 92 no_slash in
    let tick = other_byte b 96 no_tick in
    let closes = other_byte b 93 no_closer in
    let dollar = other_byte b 36 no_dollar in
    let less = other_byte b 60 no_angle in
    let opens = other_byte b 91 no_opener in
    let one : marked source at (b ∷ bs) ≡ option_or (line_end (b ∷ bs)) (option_or (opener (b ∷ bs)) (run source at (b ∷ bs))) = rw (slash, tick, closes, dollar, less, opens) refl in
    ap (marked source at) e ∙ (one ∙ (last-rules source bs at b ∙ ap (λ x. option_or (option_or (opener x) (run source at x)) (line_end x)) (sym e)))
