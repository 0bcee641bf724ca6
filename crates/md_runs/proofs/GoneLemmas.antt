-- What finds no partner in parts finds none further on.
use Rattle.std.proofs.Common.{List, [], ◌∷◌, length, drop, take, ◌≡◌, ◌+◌, ◌-◌, ℕ, zero, suc, refl, sym, ap, subst, ◌∙◌, arith, Bool, true, false, cond, Some, None, nat_lt}
use Rattle.std.specs.Prelude.{not, position}
use Rattle.std.specs.List.{position_or_len}
use Rattle.std.proofs.lemmas.Bool.Decides.{nat_tests}
use Rattle.md_leaves.specs.declared.leaf.Mark.{Mark}
use Rattle.md_leaves.specs.declared.leaf.Mark.TheVariants as mark
use Rattle.md_runs.specs.declared.pair.Gone.{Gone}
use Rattle.md_runs.specs.declared.pair.Sizes.{Sizes}
use Rattle.md_runs.specs.Brackets.{Part}
use Rattle.md_runs.specs.Pairs.{search, part_ends_search}
use Rattle.md_runs.specs.Partners.{AreGone, IsGone}
use Rattle.md_runs.proofs.Lists.{drop-drop, slice-rest}

test_of_none : (b : Bool) (k : ℕ) → cond b (Some k) None ≡ None → b ≡ false
test_of_none true k e = cc
test_of_none false k e = refl

none-tail : (p : Part → Bool) (x : Part) (xs : List Part) → position p (x ∷ xs) ≡ None → position p xs ≡ None
none-tail p x xs e =
    let n : ℕ = cond (not (p x)) (1 + position_or_len p xs) 0 in
    go (p x) (position_or_len p xs) (length xs) (test_of_none (nat_lt n (suc (length xs))) n e)
  where
    go : (v : Bool) (m n : ℕ) → nat_lt (cond (not v) (1 + m) 0) (suc n) ≡ false → cond (nat_lt m n) (Some m) None ≡ None
    go true m n f = absurd (never n f)
      where
        never : (n : ℕ) → nat_lt 0 (suc n) ≡ false → ⊥
        never n f = grind (arith, nat_tests)
    go false m n f = rw (below m n f) refl
      where
        below : (m n : ℕ) → nat_lt (1 + m) (suc n) ≡ false → nat_lt m n ≡ false
        below m n f = grind (arith, nat_tests)

none-drop : (m : Mark) (n k : ℕ) (ps : List Part) → search m n ps ≡ None → search m n (drop k ps) ≡ None
none-drop m n zero ps e = e
none-drop m n (suc k) [] e = e
none-drop m n (suc k) (p ∷ ps) e = none-drop m n k ps (none-tail (λ x. part_ends_search m n x) p ps e)

AreGone-drop : (m : Mark) (gone : Sizes) (k : ℕ) (ps : List Part) → AreGone m gone ps → AreGone m gone (drop k ps)
AreGone-drop m gone k ps h = record {
  one = λ e. none-drop m 1 k ps (h.one e);
  two = λ e. none-drop m 2 k ps (h.two e);
  three = λ e. none-drop m 3 k ps (h.three e);
}

IsGone-drop : (gone : Gone) (k : ℕ) (ps : List Part) → IsGone gone ps → IsGone gone (drop k ps)
IsGone-drop gone k ps h = record {
  star = AreGone-drop mark.Star gone.star k ps h.star;
  underscore = AreGone-drop mark.Underscore gone.underscore k ps h.underscore;
  tilde = AreGone-drop mark.Tilde gone.tilde k ps h.tilde;
  caret = AreGone-drop mark.Caret gone.caret k ps h.caret;
}

pub gone-here : (g : Gone) (at : ℕ) (ps : List Part) → IsGone g (drop at ps) → IsGone g (drop 1 (take (length ps - at) (drop at ps)))
gone-here g at ps h = subst (λ (x : List Part). IsGone g (drop 1 x)) (sym (slice-rest at ps)) (IsGone-drop g 1 (drop at ps) h)

pub gone-far : (g : Gone) (at k : ℕ) (ps : List Part) → IsGone g (drop 1 (take (length ps - at) (drop at ps))) → IsGone g (drop (at + (k + 1)) ps)
gone-far g at k ps h =
    let there : drop k (drop 1 (take (length ps - at) (drop at ps))) ≡ drop (at + (k + 1)) ps =
    ap (λ x. drop k (drop 1 x)) (slice-rest at ps) ∙ (ap (drop k) (sym (drop-drop 1 at ps)) ∙ (sym (drop-drop k (at + 1) ps) ∙ ap (λ n. drop n ps) (same at k))) in
    subst (IsGone g) there (IsGone-drop g k (drop 1 (take (length ps - at) (drop at ps))) h)
  where
    same : (at k : ℕ) → (at + 1) + k ≡ at + (k + 1)
    same at k = omega arith
