-- Texts that are repeated.
use Rattle.std.proofs.Common.{◌≡◌, ℕ, ◌+◌, List, [], ◌∷◌, ◌++◌, replicate, refl, sym, ap, ◌∙◌, append_assoc, append-nil}
use Rattle.std.proofs.lemmas.List.{replicate_more, replicate-append-replicate}
use Rattle.term_text.specs.Lists.{joined}

pub joined-append : {A : Type 0} (xs ys : List (List A)) → joined (xs ++ ys) ≡ joined xs ++ joined ys
joined-append [] ys = refl
joined-append (x ∷ xs) ys = ap (λ r. x ++ r) (joined-append xs ys) ∙ sym (append_assoc x (joined xs) (joined ys))

-- one more
pub repeated_more : (n : ℕ) (x : List ℕ) → joined (replicate (n + 1) x) ≡ joined (replicate n x) ++ x
repeated_more n x = ap joined (sym (replicate_more n x)) ∙ joined-append (replicate n x) (x ∷ []) ∙ ap (λ r. joined (replicate n x) ++ r) (append-nil x)

pub repeated_two : (n : ℕ) (x : List ℕ) → joined (replicate (n + 2) x) ≡ joined (replicate n x) ++ (x ++ x)
repeated_two n x =
    ap joined (sym (replicate-append-replicate n 2 x)) ∙ joined-append (replicate n x) (x ∷ x ∷ [])
    ∙ ap (λ r. joined (replicate n x) ++ (x ++ r)) (append-nil x)
