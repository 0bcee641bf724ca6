-- The first line of a text, and what stands after its end.
use Rattle.std.proofs.Common.{List, [], ◌∷◌, length, drop, take, get_or, ◌≡◌, ◌≤◌, ◌<◌, ◌-◌, length-drop, ◌==◌, ℕ, zero, suc, refl, sym, ap, subst, ◌∙◌, arith, ◌&&◌, eqb-true, Bool, true, false, cond, nat_lt, ◌⊎◌, get_or-drop, take_all}
use Rattle.std.proofs.lemmas.Bool.Decides.{nat_tests}
use Rattle.std.specs.Str.{IsCharBoundary, IsUtf8}
use Rattle.std.proofs.lemmas.Str.{IsCharBoundary-after_ascii, IsCharBoundary-before_ascii, IsCharBoundary-start, IsCharBoundary-end}
use Rattle.term_text.specs.LineEnds.{raw_lines, first_end, end_length, after_end, ends_line, in_front, ended, AtEnd}

lf : (cs : List ℕ) → raw_lines (10 ∷ cs) ≡ [] ∷ raw_lines cs
unfolding raw_lines
lf [] = refl
lf (c ∷ cs) = refl

-- what follows a line end in front
after_end-cases : (b c : ℕ) (cs : List ℕ) → ended b (c ∷ cs) (raw_lines (c ∷ cs)) ≡ [] ∷ raw_lines (after_end (b ∷ c ∷ cs))
unfolding raw_lines after_end
after_end-cases b c cs = cases (b == 13) refl (c == 10) refl
  where
    cases : (v : Bool) → (b == 13) ≡ v → (w : Bool) → (c == 10) ≡ w → cond v (cond w (raw_lines (c ∷ cs)) ([] ∷ raw_lines (c ∷ cs))) ([] ∷ raw_lines (c ∷ cs)) ≡ [] ∷ raw_lines (cond (v && w) cs (c ∷ cs))
    cases true p true q = let e : c ≡ 10 = eqb-true c 10 q in subst (λ (x : ℕ). raw_lines (x ∷ cs) ≡ [] ∷ raw_lines cs) (sym e) (lf cs)
    cases true p false q = refl
    cases false p true q = refl
    cases false p false q = refl

-- the text begins with its first line
pub raw_lines-split : (b : ℕ) (bs : List ℕ) → raw_lines (b ∷ bs) ≡ take (first_end (b ∷ bs)) (b ∷ bs) ∷ raw_lines (after_end (drop (first_end (b ∷ bs)) (b ∷ bs)))
unfolding raw_lines first_end after_end
raw_lines-split b [] = elim (ends_line b) as (λ v. cond v ([] ∷ []) ((b ∷ []) ∷ []) ≡ take (cond v 0 (suc 0)) (b ∷ []) ∷ raw_lines (after_end (drop (cond v 0 (suc 0)) (b ∷ [])))) [ true ↦ refl | false ↦ refl ]
raw_lines-split b (c ∷ cs) =
    let ih = raw_lines-split c cs in
    elim (ends_line b) as (λ v. cond v (ended b (c ∷ cs) (raw_lines (c ∷ cs))) (in_front b (raw_lines (c ∷ cs))) ≡ take (cond v 0 (suc (first_end (c ∷ cs)))) (b ∷ c ∷ cs) ∷ raw_lines (after_end (drop (cond v 0 (suc (first_end (c ∷ cs)))) (b ∷ c ∷ cs)))) [
      | true ↦ after_end-cases b c cs
      | false ↦ ap (in_front b) ih
    ]

-- nothing, or a line end, stands after the first line
pub AtEnd-first_end : (bs : List ℕ) → AtEnd (drop (first_end bs) bs)
unfolding first_end
AtEnd-first_end [] = tt
AtEnd-first_end (b ∷ bs) = go (ends_line b) refl (AtEnd-first_end bs)
  where
    go : (v : Bool) → ends_line b ≡ v → AtEnd (drop (first_end bs) bs) → AtEnd (drop (cond v 0 (suc (first_end bs))) (b ∷ bs))
    go true e ih = e
    go false e ih = ih

pub first_end-le : (bs : List ℕ) → first_end bs ≤ length bs
unfolding first_end
first_end-le [] = omega arith
first_end-le (b ∷ bs) = elim (ends_line b) as (λ v. cond v 0 (suc (first_end bs)) ≤ length (b ∷ bs)) [ true ↦ omega arith | false ↦ omega (arith, first_end-le bs) ]

-- the end is the first place with a byte that ends a line
pub first_end-found : (bs : List ℕ) (k : ℕ) → k < length bs → ((j : ℕ) → j < k → ends_line (get_or bs j 0) ≡ true → ⊥) → ends_line (get_or bs k 0) ≡ true → first_end bs ≡ k
unfolding first_end
first_end-found [] k lt none here = absurd (omega arith)
first_end-found (b ∷ bs) zero lt none here = ap (λ v. cond v 0 (suc (first_end bs))) here
first_end-found (b ∷ bs) (suc k) lt none here =
    go (ends_line b) refl (first_end-found bs k (omega arith) (λ j below is. none (suc j) (omega arith) is) here)
  where
    go : (v : Bool) → ends_line b ≡ v → first_end bs ≡ k → cond v 0 (suc (first_end bs)) ≡ suc k
    go true e ih = absurd (none 0 (omega arith) e)
    go false e ih = ap suc ih

pub first_end-none : (bs : List ℕ) → ((j : ℕ) → j < length bs → ends_line (get_or bs j 0) ≡ true → ⊥) → first_end bs ≡ length bs
unfolding first_end
first_end-none [] none = refl
first_end-none (b ∷ bs) none = go (ends_line b) refl (first_end-none bs (λ j below is. none (suc j) (omega arith) is))
  where
    go : (v : Bool) → ends_line b ≡ v → first_end bs ≡ length bs → cond v 0 (suc (first_end bs)) ≡ suc (length bs)
    go true e ih = absurd (none 0 (omega arith) e)
    go false e ih = ap suc ih

-- what stands after a line end, by its length
pub after_end-drop : (bs : List ℕ) → after_end bs ≡ drop (end_length bs) bs
unfolding after_end end_length
after_end-drop [] = refl
after_end-drop (b ∷ []) = refl
after_end-drop (b ∷ c ∷ cs) = elim (b == 13 && c == 10) as (λ v. cond v cs (c ∷ cs) ≡ drop (cond v 2 1) (b ∷ c ∷ cs)) [ true ↦ refl | false ↦ refl ]

pub raw_lines-rest : (text line rest after : List ℕ) → 0 < length text → line ≡ take (first_end text) text → rest ≡ drop (first_end text) text → after ≡ after_end rest → raw_lines text ≡ line ∷ raw_lines after
raw_lines-rest [] line rest after lt p q r = absurd (omega arith)
raw_lines-rest (b ∷ bs) line rest after lt p q r = rw (p, r, q) (raw_lines-split b bs)

after_end-le : (bs : List ℕ) → 0 < length bs → length (after_end bs) < length bs
unfolding after_end
after_end-le [] lt = absurd (omega arith)
after_end-le (b ∷ []) lt = omega arith
after_end-le (b ∷ c ∷ cs) lt = elim (b == 13 && c == 10) as (λ v. length (cond v cs (c ∷ cs)) < length (b ∷ c ∷ cs)) [ true ↦ omega arith | false ↦ omega arith ]

pub AtEnd-ascii : (bs : List ℕ) → AtEnd bs → get_or bs 0 0 < 128
AtEnd-ascii [] e = omega arith
AtEnd-ascii (b ∷ bs) e = grind (arith, nat_tests)

pub after_end-shorter : (text rest after : List ℕ) → 0 < length text → rest ≡ drop (first_end text) text → after ≡ after_end rest → length after < length text
unfolding after_end
after_end-shorter text rest after lt q r = rw (r, q) (go (drop (first_end text) text) (length-drop (first_end text) text))
  where
    go : (xs : List ℕ) → length xs ≡ length text - first_end text → length (after_end xs) < length text
    go [] e = lt
    go (x ∷ xs) e = let h = after_end-le (x ∷ xs) (omega arith) in omega (arith, h)

pub end_length-short : (bs : List ℕ) → length bs < 2 → length bs ≡ end_length bs
unfolding end_length
end_length-short [] h = refl
end_length-short (b ∷ []) h = refl
end_length-short (b ∷ c ∷ cs) h = absurd (omega arith)

pub end_length-pair : (bs : List ℕ) → 2 ≤ length bs → get_or bs 0 0 ≡ 13 → get_or bs 1 0 ≡ 10 → 2 ≡ end_length bs
unfolding end_length
end_length-pair [] h p q = absurd (omega arith)
end_length-pair (b ∷ []) h p q = absurd (omega arith)
end_length-pair (b ∷ c ∷ cs) h p q = sym (ap (λ v. cond v 2 1) (test b c p q))
  where
    test : (b c : ℕ) → b ≡ 13 → c ≡ 10 → (b == 13 && c == 10) ≡ true
    test b c p q = grind (arith, nat_tests)

pub end_length-one : (bs : List ℕ) → 2 ≤ length bs → ((get_or bs 0 0 ≡ 13 → ⊥) ⊎ (get_or bs 1 0 ≡ 10 → ⊥)) → 1 ≡ end_length bs
unfolding end_length
end_length-one [] h p = absurd (omega arith)
end_length-one (b ∷ []) h p = absurd (omega arith)
end_length-one (b ∷ c ∷ cs) h p = sym (ap (λ v. cond v 2 1) (test b c p))
  where
    test : (b c : ℕ) → ((b ≡ 13 → ⊥) ⊎ (c ≡ 10 → ⊥)) → (b == 13 && c == 10) ≡ false
    test b c p = grind (arith, nat_tests)

-- a text may be cut after the line end in front
pub boundary_end : (bs : List ℕ) → IsUtf8 bs → AtEnd bs → IsCharBoundary bs (end_length bs)
unfolding end_length
boundary_end [] u e = IsCharBoundary-start [] u
boundary_end (b ∷ []) u e = IsCharBoundary-after_ascii (b ∷ []) 0 u (omega arith) (AtEnd-ascii (b ∷ []) e)
boundary_end (b ∷ c ∷ cs) u e =
    go (b == 13) (c == 10) refl
    (IsCharBoundary-after_ascii (b ∷ c ∷ cs) 0 u (omega arith) (AtEnd-ascii (b ∷ c ∷ cs) e))
    (λ ten. IsCharBoundary-after_ascii (b ∷ c ∷ cs) 1 u (omega arith) (let t : c < 128 = omega (arith, eqb-true c 10 ten) in t))
  where
    go : (v w : Bool) → (c == 10) ≡ w → IsCharBoundary (b ∷ c ∷ cs) 1 → ((c == 10) ≡ true → IsCharBoundary (b ∷ c ∷ cs) 2) → IsCharBoundary (b ∷ c ∷ cs) (cond (v && w) 2 1)
    go true true q one two = two q
    go true false q one two = one
    go false true q one two = one
    go false false q one two = one

-- a text may be cut before its first line end
pub boundary_first_end : (bs : List ℕ) → IsCharBoundary bs (first_end bs)
boundary_first_end bs = elim (nat_lt (first_end bs) (length bs)) as (λ v. nat_lt (first_end bs) (length bs) ≡ v → IsCharBoundary bs (first_end bs)) [
  | true ↦ λ e. let lt : first_end bs < length bs = grind (arith, nat_tests) in
      IsCharBoundary-before_ascii bs (first_end bs) lt
      (let h = AtEnd-ascii (drop (first_end bs) bs) (AtEnd-first_end bs) in
      let same : get_or (drop (first_end bs) bs) 0 0 ≡ get_or bs (first_end bs) 0 = get_or-drop (first_end bs) bs 0 0 ∙ ap (λ (n : ℕ). get_or bs n 0) (omega arith) in
      omega (arith, h, same))
  | false ↦ λ e. let same : length bs ≡ first_end bs = grind (arith, nat_tests, first_end-le bs) in subst (IsCharBoundary bs) same (IsCharBoundary-end bs)
] refl

-- the slice from n on
pub take-rest : (n : ℕ) (xs : List ℕ) → take (length xs - n) (drop n xs) ≡ drop n xs
take-rest n xs = take_all (length xs - n) (drop n xs) (omega (arith, length-drop n xs))
