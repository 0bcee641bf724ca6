-- Decimal numbers.
use Rattle.std.proofs.Common.{◌≡◌, ◌≤◌, ◌+◌, ◌-◌, ◌*◌, min, ℕ, Bool, true, false, cond, List, [], ◌∷◌, refl, ap, sym, ◌∙◌, arith, Some, None}
use Rattle.std.proofs.lemmas.Option.{none-some, cond_some}
use Rattle.ansi_text.specs.Numbers.{NumberRead, is_digit, digit, with_digits}
use Rattle.ansi_text.specs.Reads.{capped}

-- a number, and what follows it
abbrev pub here : ℕ → List ℕ → NumberRead
here n bs = record { value = n; rest = bs }

-- numbers that are the same up to the cap stay so with further digits
pub capped-with_digits : (m n : ℕ) (bs : List ℕ) → min m 1000 ≡ min n 1000 → capped (with_digits m bs) ≡ capped (with_digits n bs)
unfolding with_digits
capped-with_digits m n [] e = ap (λ (k : ℕ). here k []) e
capped-with_digits m n (b ∷ bs) e =
    go (is_digit b) (capped-with_digits (m * 10 + (b - 48)) (n * 10 + (b - 48)) bs (omega (arith, e)))
  where
    go : (v : Bool) → capped (with_digits (m * 10 + (b - 48)) bs) ≡ capped (with_digits (n * 10 + (b - 48)) bs)
        → capped (cond v (with_digits (m * 10 + (b - 48)) bs) (record { value = m; rest = b ∷ bs })) ≡ capped (cond v (with_digits (n * 10 + (b - 48)) bs) (record { value = n; rest = b ∷ bs }))
    go true h = h
    go false h = ap (λ (k : ℕ). here k (b ∷ bs)) e

-- with a digit in front, and with none
pub with_digits-Some : (n : ℕ) (bs : List ℕ) (d : NumberRead) → digit bs ≡ Some d → with_digits n bs ≡ with_digits (n * 10 + d.value) d.rest
unfolding with_digits
with_digits-Some n [] d e = absurd (none-some d e)
with_digits-Some n (b ∷ bs) d e =
    let parts = cond_some (is_digit b) (here (b - 48) bs) d e in
    ap (λ v. cond v (with_digits (n * 10 + (b - 48)) bs) (here n (b ∷ bs))) parts.0
    ∙ ap (λ (x : NumberRead). with_digits (n * 10 + x.value) x.rest) parts.1

pub with_digits-None : (n : ℕ) (bs : List ℕ) → digit bs ≡ None → with_digits n bs ≡ here n bs
unfolding with_digits
with_digits-None n [] e = refl
with_digits-None n (b ∷ bs) e = go (is_digit b) e
  where
    go : (v : Bool) → cond v (Some (here (b - 48) bs)) None ≡ None
        → cond v (with_digits (n * 10 + (b - 48)) bs) (here n (b ∷ bs)) ≡ here n (b ∷ bs)
    go true h = absurd (none-some (here (b - 48) bs) (sym h))
    go false h = refl

pub capped-small : (n : NumberRead) → n.value ≤ 1000 → capped n ≡ n
capped-small n h = ap (λ (k : ℕ). here k n.rest) (omega (arith, h))

-- a further digit, kept up to the cap
pub capped-more : (m n : ℕ) (bs : List ℕ) (d : NumberRead) → Some d ≡ digit bs → m ≡ min (n * 10 + d.value) 1000 → capped (with_digits m d.rest) ≡ capped (with_digits n bs)
capped-more m n bs d e k =
    capped-with_digits m (n * 10 + d.value) d.rest (omega (arith, k)) ∙ ap capped (sym (with_digits-Some n bs d (sym e)))

pub capped-end : (n : ℕ) (bs : List ℕ) → None ≡ digit bs → n ≤ 1000 → here n bs ≡ capped (with_digits n bs)
capped-end n bs e h = sym (ap capped (with_digits-None n bs (sym e)) ∙ capped-small (here n bs) h)
