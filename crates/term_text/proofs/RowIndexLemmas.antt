-- The rows of lines, from how many there are up to the end of each line.
use Rattle.std.proofs.Common.{◌≡◌, ℕ, zero, suc, ◌+◌, ◌-◌, ◌<◌, ◌≤◌, Bool, true, false, nat_le, ◌&&◌, List, [], ◌∷◌, ◌++◌, length, take, get_or, refl, ap, ap₂, ◌∙◌, arith}
use Rattle.std.specs.List.{sum}
use Rattle.std.proofs.lemmas.Bool.Decides.{nat_tests}
use Rattle.std.proofs.lemmas.List.Sums.{sum_by-cons}
use Rattle.term_text.proofs.CutLemmas.{le_of_test}
use Rattle.term_text.specs.RowIndex.{counts_after, rises}

and_parts : (a b : Bool) → (a && b) ≡ true → (a ≡ true) × (b ≡ true)
and_parts true b e = (refl, e)
and_parts false b e = absurd (cc)

test_of_le : (m n : ℕ) → m ≤ n → nat_le m n ≡ true
test_of_le m n e = grind (arith, nat_tests)

sum-cons : (n : ℕ) (ns : List ℕ) → sum (n ∷ ns) ≡ n + sum ns
sum-cons n ns = sum_by-cons (λ (x : ℕ). x) n ns

rises-cons : (before end : ℕ) (ends : List ℕ) → rises before (end ∷ ends) ≡ true → (before ≤ end) × (rises end ends ≡ true)
unfolding rises
rises-cons before end ends e =
    let parts = and_parts (nat_le before end) (rises end ends) e in
    (le_of_test before end parts.0, parts.1)

-- a number is kept for each line
pub length-counts : (before : ℕ) (ends : List ℕ) → length (counts_after before ends) ≡ length ends
unfolding counts_after
length-counts before [] = refl
length-counts before (end ∷ ends) = ap suc (length-counts end ends)

-- the rows up to the end of a line are all that are in it and before it
sum-counts : (before : ℕ) (ends : List ℕ) (k d : ℕ) → rises before ends ≡ true → k < length ends
    → before + sum (take (suc k) (counts_after before ends)) ≡ get_or ends k d
unfolding counts_after
sum-counts before [] k d up lt = absurd (omega arith)
sum-counts before (end ∷ ends) zero d up lt =
    let parts = rises-cons before end ends up in omega (arith, sum-cons (end - before) [])
sum-counts before (end ∷ ends) (suc k) d up lt =
    let parts = rises-cons before end ends up in
    let more = sum-counts end ends k d parts.1 (omega arith) in
    omega (arith, sum-cons (end - before) (take (suc k) (counts_after end ends)))

pub sum-counts-first : (ends : List ℕ) (k d : ℕ) → rises 0 ends ≡ true → k < length ends
    → sum (take (suc k) (counts_after 0 ends)) ≡ get_or ends k d
sum-counts-first ends k d up lt = omega (arith, sum-counts 0 ends k d up lt)

-- a line at the end has the rows from all those before on
pub counts_after-push : (before : ℕ) (ends : List ℕ) (end : ℕ) → rises before ends ≡ true
    → counts_after before (ends ++ end ∷ []) ≡ counts_after before ends ++ (end - (before + sum (counts_after before ends))) ∷ []
unfolding counts_after
counts_after-push before [] end up = ap (λ n. (end - n) ∷ []) (omega arith)
counts_after-push before (first ∷ ends) end up =
    let parts = rises-cons before first ends up in
    let same : first + sum (counts_after first ends) ≡ before + sum ((first - before) ∷ counts_after first ends) =
    omega (arith, sum-cons (first - before) (counts_after first ends)) in
    ap (λ t. (first - before) ∷ t) (counts_after-push first ends end parts.1
    ∙ ap (λ n. counts_after first ends ++ (end - n) ∷ []) same)

-- the numbers rise on where the last is not less than all before
pub rises-push : (before : ℕ) (ends : List ℕ) (end : ℕ) → rises before ends ≡ true → before + sum (counts_after before ends) ≤ end
    → rises before (ends ++ end ∷ []) ≡ true
unfolding counts_after rises
rises-push before [] end up le = ap (λ b. b && true) (test_of_le before end (omega arith))
rises-push before (first ∷ ends) end up le =
    let parts = rises-cons before first ends up in
    ap₂ (λ a b. a && b) (test_of_le before first parts.0)
    (rises-push first ends end parts.1 (omega (arith, sum-cons (first - before) (counts_after first ends))))
