-- The rows of lines, kept as how many there are up to the end of each line.
use Rattle.std.specs.Prelude.{ℕ, ◌-◌, Bool, true, ◌&&◌, nat_le, List, [], ◌∷◌}

-- the rows of each line, where so many are before the first line and these up to the end of each
unfoldable pub counts_after : ℕ → List ℕ → List ℕ
counts_after before [] = []
counts_after before (end ∷ ends) = (end - before) ∷ counts_after end ends

-- whether the numbers never fall, from so many on
unfoldable pub rises : ℕ → List ℕ → Bool
rises before [] = true
rises before (end ∷ ends) = nat_le before end && rises end ends
