-- Symbols of printable ASCII.
use Rattle.std.specs.Prelude.{ℕ, nat_le, Bool, false, ◌&&◌, List, [], ◌∷◌}

-- one byte from the space to the tilde
abbrev pub is_printable : List ℕ → Bool
is_printable [] = false
is_printable (b ∷ []) = nat_le 32 b && nat_le b 126
is_printable (b ∷ c ∷ bs) = false
