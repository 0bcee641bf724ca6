-- A walk along the visited cells.
use Rattle.std.proofs.Common.{◌≡◌, ℕ, zero, suc, ◌+◌, ◌-◌, ◌^◌, ◌<◌, ◌≤◌, Bool, true, false, nat_le, List, [], ◌∷◌, length, drop, get_or, refl, sym, ap, ◌∙◌, arith, drop-cons}
use Rattle.std.specs.Prelude.{min, max}
use Rattle.std.proofs.lemmas.List.{drop-drop}
use Rattle.std.proofs.Math.ListN.{drop_of_length-le}
use Rattle.term_text.specs.Graph.{width_of}
use Rattle.term_text.proofs.CutLemmas.{le_of_test, lt_of_test}
use Rattle.term_core.specs.Cells.{CellView}
use Rattle.term_core.specs.Visited.{visited_after, visited}

visited_after-drop : (n : ℕ) (cs : List CellView) → visited_after n cs ≡ visited (drop n cs)
unfolding visited_after
visited_after-drop zero cs = refl
visited_after-drop (suc n) [] = refl
visited_after-drop (suc n) (c ∷ cs) = visited_after-drop n cs

visited-cons : (c : CellView) (cs : List CellView) → visited (c ∷ cs) ≡ c ∷ visited (drop (width_of c.symbol - 1) cs)
unfolding visited_after
visited-cons c cs = ap (λ t. c ∷ t) (visited_after-drop (width_of c.symbol - 1) cs)

-- past the end nothing is visited
pub visited-end : (cs : List CellView) (i : ℕ) → length cs ≤ i → visited (drop i cs) ≡ []
unfolding visited_after
visited-end cs i h = ap visited (drop_of_length-le cs h)

-- a place past the greatest number is past the end
same_rest : (cs : List CellView) (i k j : ℕ) → length cs < 2 ^ 64 → j ≡ min (i + max k 1) (2 ^ 64 - 1) → visited (drop (k - 1) (drop (suc i) cs)) ≡ visited (drop j cs)
same_rest cs i k j bound next = go (nat_le (i + max k 1) (2 ^ 64 - 1)) refl
  where
    within : nat_le (i + max k 1) (2 ^ 64 - 1) ≡ true → suc i + (k - 1) ≡ j
    within e = let h = le_of_test _ _ e in omega arith

    over : nat_le (i + max k 1) (2 ^ 64 - 1) ≡ false → length cs ≤ suc i + (k - 1)
    over e = let h = lt_of_test _ _ e in omega arith

    past : nat_le (i + max k 1) (2 ^ 64 - 1) ≡ false → length cs ≤ j
    past e = let h = lt_of_test _ _ e in omega arith

    go : (b : Bool) → nat_le (i + max k 1) (2 ^ 64 - 1) ≡ b → visited (drop (k - 1) (drop (suc i) cs)) ≡ visited (drop j cs)
    go true e = ap visited (drop-drop (k - 1) (suc i) cs ∙ ap (λ n. drop n cs) (within e))
    go false e = ap visited (drop-drop (k - 1) (suc i) cs) ∙ visited-end cs (suc i + (k - 1)) (over e) ∙ sym (visited-end cs j (past e))

-- the cell at a place, and the place of the next one
pub visited-step : (cs : List CellView) (i j : ℕ) (c : CellView) → i < length cs → length cs < 2 ^ 64 → c ≡ get_or cs i c
    → j ≡ min (i + max (width_of c.symbol) 1) (2 ^ 64 - 1) → visited (drop i cs) ≡ c ∷ visited (drop j cs)
visited-step cs i j c lt bound is next =
    ap visited (drop-cons cs i c lt) ∙ ap (λ d. visited (d ∷ drop (suc i) cs)) (sym is) ∙ visited-cons c (drop (suc i) cs)
    ∙ ap (λ t. c ∷ t) (same_rest cs i (width_of c.symbol) j bound next)
