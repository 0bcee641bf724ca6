-- The parts of a list at a place.
use Rattle.std.proofs.Common.{◌≡◌, ℕ, ◌+◌, ◌-◌, ◌≤◌, List, ◌++◌, length, take, drop, arith, sym, ◌∙◌, ap, length-drop}
use Rattle.std.proofs.lemmas.List.{take-append-drop, take_at, drop-drop, length-take-le}

-- what a read gave, and what it left
pub read_splits : (bytes got rest : List ℕ) (at n : ℕ) → n ≤ length bytes - at → got ≡ take n (drop at bytes)
    → drop at bytes ≡ take n (got ++ rest) ++ drop (at + n) bytes
read_splits bytes got rest at n le is =
    let len : length got ≡ n = ap length is ∙ length-take-le n (drop at bytes) (omega (arith, length-drop at bytes)) in
    let front : take n (got ++ rest) ≡ take n (drop at bytes) = take_at got rest n len ∙ is in
    sym (ap (λ (f : List ℕ). f ++ drop (at + n) bytes) front ∙ ap (λ (r : List ℕ). take n (drop at bytes) ++ r) (sym (drop-drop n at bytes)) ∙ take-append-drop n (drop at bytes))
