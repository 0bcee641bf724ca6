-- Lists cut at places, and tests joined.
use Rattle.std.proofs.Common.{List, [], ◌∷◌, length, drop, take, ◌≡◌, ◌+◌, ◌-◌, ℕ, zero, suc, refl, sym, ap, ◌∙◌, arith, length-drop, Bool, true, false, ◌&&◌}
use Rattle.std.proofs.lemmas.List.{take_all}
use Rattle.std.proofs.Math.Seq.{drop-nil}
use Rattle.std.proofs.Math.Nat.{suc-add, zero-add}

pub drop-drop : {A : Type 0} → (k at : ℕ) (xs : List A) → drop (at + k) xs ≡ drop k (drop at xs)
drop-drop k zero xs = ap (λ n. drop n xs) (zero-add k)
drop-drop k (suc at) [] = drop-nil (suc at + k) ∙ sym (drop-nil k)
drop-drop k (suc at) (x ∷ xs) = ap (λ n. drop n (x ∷ xs)) (suc-add at k) ∙ drop-drop k at xs

-- the slice from a place on
pub slice-rest : {A : Type 0} → (at : ℕ) (xs : List A) → take (length xs - at) (drop at xs) ≡ drop at xs
slice-rest at xs = let n = length-drop at xs in take_all (length xs - at) (drop at xs) (omega (arith, n))

pub take-nil : {A : Type 0} → (n : ℕ) → take n (let none : List A = [] in none) ≡ []
take-nil zero = refl
take-nil (suc n) = refl

pub both-true : (a b : Bool) → (a && b) ≡ true → (a ≡ true) × (b ≡ true)
both-true true b e = (refl, e)
both-true false b e = cc
