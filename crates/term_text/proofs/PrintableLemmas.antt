-- Walks along printable bytes.
use Rattle.std.proofs.Common.{◌≡◌, ℕ, zero, suc, ◌+◌, ◌<◌, ◌≤◌, ◌==◌, Bool, true, false, cond, List, [], ◌∷◌, length, drop, get_or, refl, sym, ap, ap₂, ◌∙◌, arith}
use Rattle.std.proofs.lemmas.Bool.Decides.{nat_tests}
use Rattle.std.proofs.lemmas.List.{drop_more}
use Rattle.term_text.specs.Cut.{leading_spaces, mark_of, mark_after}

-- one step of the search for the end of the spaces
pub leading_spaces-more : (bytes : List ℕ) (at : ℕ) → at < length bytes → get_or bytes at 0 ≡ 32
    → at + 1 + leading_spaces (drop (at + 1) bytes) ≡ at + leading_spaces (drop at bytes)
unfolding leading_spaces
leading_spaces-more bytes at lt is =
    let here : (get_or bytes at 0 == 32) ≡ true = test (get_or bytes at 0) is in
    let d = ap leading_spaces (drop_more bytes at 0 lt) ∙ ap (λ v. cond v (suc (leading_spaces (drop (at + 1) bytes))) 0) here in
    omega (arith, d)
  where
    test : (b : ℕ) → b ≡ 32 → (b == 32) ≡ true
    test b is = grind (arith, nat_tests)

pub leading_spaces-stop : (bytes : List ℕ) (at : ℕ) → at < length bytes → (get_or bytes at 0 ≡ 32 → ⊥) → leading_spaces (drop at bytes) ≡ 0
unfolding leading_spaces
leading_spaces-stop bytes at lt is =
    ap leading_spaces (drop_more bytes at 0 lt) ∙ ap (λ v. cond v (suc (leading_spaces (drop (at + 1) bytes))) 0) (test (get_or bytes at 0) is)
  where
    test : (b : ℕ) → (b ≡ 32 → ⊥) → (b == 32) ≡ false
    test b is = grind (arith, nat_tests)

mark_of-true : (n mark : ℕ) → 0 < n → mark_of true n mark ≡ n
mark_of-true n mark h = grind (arith, nat_tests)

-- no space, no new mark
pub mark_after-none : (bs : List ℕ) (count mark : ℕ) → ((j : ℕ) → j < length bs → (get_or bs j 0 == 32) ≡ true → ⊥) → mark_after bs count mark ≡ mark
unfolding mark_after
mark_after-none [] count mark none = refl
mark_after-none (b ∷ bs) count mark none =
    mark_after-none bs (count + 1) (mark_of (b == 32) count mark) (λ j below is. none (suc j) (omega arith) is) ∙ go (b == 32) refl
  where
    unmarked : (count mark : ℕ) → mark_of false count mark ≡ mark
    unmarked count mark = grind (arith, nat_tests)

    go : (v : Bool) → (b == 32) ≡ v → mark_of v count mark ≡ mark
    go true e = absurd (none 0 (omega arith) e)
    go false e = unmarked count mark

-- the last space is the mark
pub mark_after-last : (bs : List ℕ) (k count mark : ℕ) → k < length bs → (get_or bs k 0 == 32) ≡ true
    → ((j : ℕ) → k + 1 ≤ j → j < length bs → (get_or bs j 0 == 32) ≡ true → ⊥) → mark_after bs count mark ≡ mark_of true (count + k) mark
unfolding mark_after
mark_after-last [] k count mark lt here none = absurd (omega arith)
mark_after-last (b ∷ bs) zero count mark lt here none =
    mark_after-none bs (count + 1) (mark_of (b == 32) count mark) (λ j below is. none (suc j) (omega arith) (omega arith) is)
    ∙ ap₂ (λ v n. mark_of v n mark) here same
  where
    same : count ≡ count + 0
    same = omega arith
mark_after-last (b ∷ bs) (suc k) count mark lt here none =
    mark_after-last bs k (count + 1) (mark_of (b == 32) count mark) (omega arith) here (λ j above below is. none (suc j) (omega arith) (omega arith) is)
    ∙ mark_of-true (count + 1 + k) _ (omega arith) ∙ same ∙ sym (mark_of-true (count + suc k) mark (omega arith))
  where
    same : count + 1 + k ≡ count + suc k
    same = omega arith
