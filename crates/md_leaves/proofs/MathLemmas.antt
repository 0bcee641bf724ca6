-- What stands where a pair of dollars is found.
use Rattle.std.proofs.Common.{List, [], ◌∷◌, get_or, ◌≡◌, ◌+◌, ◌&&◌, ℕ, suc, refl, ap, subst, ◌∙◌, arith, Bool, true, false, cond, Option, Some, None}
use Rattle.std.specs.Option.{option_map}
use Rattle.std.proofs.lemmas.Bool.Decides.{nat_tests}
use Rattle.md_leaves.specs.Math.{is_dollar, pair_before}
use Rattle.md_leaves.proofs.TextLemmas.{both_true}

-- the two dollars that are found
pub record ArePair (bs : List ℕ) (k : ℕ) : Type 0 where
  pub first : get_or bs k 0 ≡ 36
  pub second : get_or bs (k + 1) 0 ≡ 36

pub pair_before-dollars : (bs : List ℕ) (k : ℕ) → pair_before bs ≡ Some k → ArePair bs k
unfolding pair_before
pair_before-dollars [] k e = absurd (let h : ⊥ = cc in h)
pair_before-dollars (b ∷ bs) k e = go (is_dollar b && is_dollar (get_or bs 0 0)) refl (pair_before bs) (λ m h. pair_before-dollars bs m h) e
  where
    go : (v : Bool) → (is_dollar b && is_dollar (get_or bs 0 0)) ≡ v → (o : Option ℕ) → ((m : ℕ) → o ≡ Some m → ArePair bs m)
        → cond v (Some 0) (option_map suc o) ≡ Some k → ArePair (b ∷ bs) k
    go true is o rest e =
        let z : 0 ≡ k = cc in
        let two = both_true (is_dollar b) (is_dollar (get_or bs 0 0)) is in
        subst (ArePair (b ∷ bs)) z (record { first = (let h : b ≡ 36 = grind (arith, nat_tests, two.0) in h); second = (let h : get_or bs 0 0 ≡ 36 = grind (arith, nat_tests, two.1) in h) })
    go false is None rest e = absurd (let h : ⊥ = cc in h)
    go false is (Some m) rest e =
        let more : suc m ≡ k = cc in
        let two = rest m refl in
        subst (ArePair (b ∷ bs)) more (record { first = two.first; second = ap (λ j. get_or (b ∷ bs) j 0) (let h : suc m + 1 ≡ suc (m + 1) = omega arith in h) ∙ two.second })
