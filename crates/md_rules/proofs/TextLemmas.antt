-- Where a line's text may be cut, and its words one by one.
use Rattle.std.proofs.Common.{◌-◌, reverse, List, [], ◌∷◌, length, take, drop, get_or, ◌≡◌, ◌<◌, ◌+◌, ℕ, zero, suc, refl, sym, ap, subst, ◌∙◌, arith, true, false, Bool, cond, not}
use Rattle.std.specs.List.{prefix_len, position_or_len, suffix_len}
use Rattle.std.specs.Str.{IsCharBoundary, IsUtf8}
use Rattle.std.proofs.lemmas.Bool.{false≢true}
use Rattle.std.proofs.lemmas.List.{get_or-reverse}
use Rattle.std.proofs.lemmas.Bool.Decides.{nat_tests}
use Rattle.std.proofs.lemmas.List.Sums.{prefix_len_passes, prefix_len_stops, prefix_len-le-length, suffix_len-le-length}
use Rattle.std.proofs.lemmas.Str.{IsCharBoundary-after_ascii, IsCharBoundary-before_ascii, IsCharBoundary-end, IsCharBoundary-start}
use Rattle.term_text.specs.LineEnds.{in_front}
use Rattle.md_lines.specs.Blanks.{is_blank}
use Rattle.md_rules.specs.Texts.{ends_word, without_start_blanks, words}

-- a text may be cut behind the ASCII bytes at its start
pub boundary-front : (p : ℕ → Bool) → ((b : ℕ) → p b ≡ true → b < 128) → (text : List ℕ) → IsUtf8 text → IsCharBoundary text (prefix_len p text)
boundary-front p ascii text utf8 = go (prefix_len p text) refl
  where
    go : (n : ℕ) → prefix_len p text ≡ n → IsCharBoundary text n
    go zero e = IsCharBoundary-start text utf8
    go (suc k) e =
        let lt : k < prefix_len p text = omega arith in
        let within : k < length text = omega (arith, prefix_len-le-length p text) in
        let next : k + 1 ≡ suc k = omega arith in
        subst (λ (n : ℕ). IsCharBoundary text n) next (IsCharBoundary-after_ascii text k utf8 within (ascii (get_or text k 0) (prefix_len_passes p text k 0 lt)))

-- and before the first ASCII byte of a kind
pub boundary-first : (p : ℕ → Bool) → ((b : ℕ) → p b ≡ true → b < 128) → (text : List ℕ) → IsCharBoundary text (position_or_len p text)
boundary-first p ascii [] = IsCharBoundary-end []
boundary-first p ascii (b ∷ bs) = go (p b) refl (boundary-first p ascii bs)
  where
    next : (n : ℕ) → IsCharBoundary bs n → IsCharBoundary (b ∷ bs) (1 + n)
    next n h = let e : suc n ≡ 1 + n = omega arith in subst (λ (k : ℕ). IsCharBoundary (b ∷ bs) k) e (omega (arith, h.0), λ lt. h.1 (omega arith))

    go : (v : Bool) → p b ≡ v → IsCharBoundary bs (position_or_len p bs) → IsCharBoundary (b ∷ bs) (cond (not v) (1 + position_or_len p bs) 0)
    go true e h = IsCharBoundary-before_ascii (b ∷ bs) 0 (omega arith) (ascii b e)
    go false e h = next (position_or_len p bs) h

pub blank-ascii : (b : ℕ) → is_blank b ≡ true → b < 128
blank-ascii b e = grind (arith, nat_tests)

drop-next : (n b : ℕ) (bs : List ℕ) → drop (1 + n) (b ∷ bs) ≡ drop n bs
drop-next n b bs = let e : 1 + n ≡ suc n = omega arith in ap (λ k. drop k (b ∷ bs)) e

take-next : (n b : ℕ) (bs : List ℕ) → take (1 + n) (b ∷ bs) ≡ b ∷ take n bs
take-next n b bs = let e : 1 + n ≡ suc n = omega arith in ap (λ k. take k (b ∷ bs)) e

-- blanks before the first word are passed over
pub words-skip : (bs : List ℕ) → words bs ≡ words (without_start_blanks bs)
unfolding words
words-skip [] = refl
words-skip (b ∷ bs) = go (is_blank b) refl (words-skip bs)
  where
    go : (v : Bool) → is_blank b ≡ v → words bs ≡ words (without_start_blanks bs) → words (b ∷ bs) ≡ words (drop (cond v (1 + prefix_len is_blank bs) 0) (b ∷ bs))
    go true e h = rw e (h ∙ ap words (sym (drop-next (prefix_len is_blank bs) b bs)))
    go false e h = refl

-- no blank stands in front then
pub without_start_blanks-solid : (bs : List ℕ) → 0 < length (without_start_blanks bs) → not (ends_word (without_start_blanks bs)) ≡ true
without_start_blanks-solid [] some = absurd (omega arith)
without_start_blanks-solid (b ∷ bs) some = go (is_blank b) refl (without_start_blanks-solid bs) some
  where
    go : (v : Bool) → is_blank b ≡ v → (0 < length (without_start_blanks bs) → not (ends_word (without_start_blanks bs)) ≡ true) → 0 < length (drop (cond v (1 + prefix_len is_blank bs) 0) (b ∷ bs)) → not (ends_word (drop (cond v (1 + prefix_len is_blank bs) 0) (b ∷ bs))) ≡ true
    go true e h some = rw (drop-next (prefix_len is_blank bs) b bs) (h (rw (drop-next (prefix_len is_blank bs) b bs) at some))
    go false e h some = rw e refl

words-first_of : (b : ℕ) (bs : List ℕ) → is_blank b ≡ false → words (b ∷ bs) ≡ (b ∷ take (position_or_len is_blank bs) bs) ∷ words (drop (position_or_len is_blank bs) bs)
unfolding words
words-first_of b [] e = rw e refl
words-first_of b (c ∷ cs) e = go (is_blank c) refl (words-first_of c cs)
  where
    go : (v : Bool) → is_blank c ≡ v → (is_blank c ≡ false → words (c ∷ cs) ≡ (c ∷ take (position_or_len is_blank cs) cs) ∷ words (drop (position_or_len is_blank cs) cs)) → words (b ∷ c ∷ cs) ≡ (b ∷ take (cond (not v) (1 + position_or_len is_blank cs) 0) (c ∷ cs)) ∷ words (drop (cond (not v) (1 + position_or_len is_blank cs) 0) (c ∷ cs))
    go true f h = rw (e, f) refl
    go false f h =
        let n : ℕ = position_or_len is_blank cs in
        let here : words (b ∷ c ∷ cs) ≡ in_front b (words (c ∷ cs)) = ap (λ v. cond v (words (c ∷ cs)) (cond (is_blank c) ((b ∷ []) ∷ words (c ∷ cs)) (in_front b (words (c ∷ cs))))) e ∙ ap (λ v. cond v ((b ∷ []) ∷ words (c ∷ cs)) (in_front b (words (c ∷ cs)))) f in
        here ∙ (ap (in_front b) (h f) ∙ rw (take-next n c cs, drop-next n c cs) refl)

-- the first word is in front
pub words-first : (bs : List ℕ) → not (ends_word bs) ≡ true → words bs ≡ take (position_or_len is_blank bs) bs ∷ words (drop (position_or_len is_blank bs) bs)
words-first [] solid = absurd (false≢true solid)
words-first (b ∷ bs) solid = go (is_blank b) refl solid
  where
    go : (v : Bool) → is_blank b ≡ v → not v ≡ true → words (b ∷ bs) ≡ take (cond (not v) (1 + position_or_len is_blank bs) 0) (b ∷ bs) ∷ words (drop (cond (not v) (1 + position_or_len is_blank bs) 0) (b ∷ bs))
    go true e solid = absurd (false≢true solid)
    go false e solid = words-first_of b bs e ∙ rw (take-next (position_or_len is_blank bs) b bs, drop-next (position_or_len is_blank bs) b bs) refl

pub first_word-some : (bs : List ℕ) → not (ends_word bs) ≡ true → 0 < position_or_len is_blank bs
first_word-some [] solid = absurd (false≢true solid)
first_word-some (b ∷ bs) solid = rw solid (omega arith)

pub words-none : (bs : List ℕ) → length bs ≡ 0 → words bs ≡ []
unfolding words
words-none [] none = refl
words-none (b ∷ bs) none = absurd (omega arith)

-- a text may be cut behind the first ASCII byte of a kind
pub boundary-behind_first : (p : ℕ → Bool) → ((b : ℕ) → p b ≡ true → b < 128) → (text : List ℕ) → IsUtf8 text → position_or_len p text < length text → IsCharBoundary text (position_or_len p text + 1)
boundary-behind_first p ascii text utf8 within =
    IsCharBoundary-after_ascii text (position_or_len p text) utf8 within (ascii (get_or text (position_or_len p text) 0) (not-false (p (get_or text (position_or_len p text) 0)) (prefix_len_stops (λ b. not (p b)) text 0 within)))
  where
    not-false : (v : Bool) → not v ≡ false → v ≡ true
    not-false true e = refl
    not-false false e = absurd (false≢true (sym e))

suffix_len_passes : (p : ℕ → Bool) (xs : List ℕ) → 0 < suffix_len p xs → p (get_or xs (length xs - suffix_len p xs) 0) ≡ true
suffix_len_passes p xs some =
    let k : ℕ = suffix_len p xs - 1 in
    let lt : k < prefix_len p (reverse xs) = omega arith in
    let within : k < length xs = omega (arith, suffix_len-le-length p xs) in
    let place : length xs - 1 - k ≡ length xs - suffix_len p xs = omega (arith, suffix_len-le-length p xs) in
    ap p (ap (λ n. get_or xs n 0) (sym place) ∙ sym (get_or-reverse xs k 0 within)) ∙ prefix_len_passes p (reverse xs) k 0 lt

-- and before the ASCII bytes at its end
pub boundary-suffix : (p : ℕ → Bool) → ((b : ℕ) → p b ≡ true → b < 128) → (text : List ℕ) → IsCharBoundary text (length text - suffix_len p text)
boundary-suffix p ascii text = go (suffix_len p text) refl
  where
    go : (n : ℕ) → suffix_len p text ≡ n → IsCharBoundary text (length text - n)
    go zero e = let whole : length text ≡ length text - 0 = omega arith in subst (λ (k : ℕ). IsCharBoundary text k) whole (IsCharBoundary-end text)
    go (suc n) e =
        let some : 0 < suffix_len p text = omega arith in
        let within : length text - suffix_len p text < length text = omega (arith, suffix_len-le-length p text) in
        subst (λ (k : ℕ). IsCharBoundary text (length text - k)) e (IsCharBoundary-before_ascii text (length text - suffix_len p text) within (ascii (get_or text (length text - suffix_len p text) 0) (suffix_len_passes p text some)))
