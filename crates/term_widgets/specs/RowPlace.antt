-- Where a row stands, in lines of which each has so many rows.
use Rattle.std.specs.Prelude.{ℕ, suc, ◌-◌, nat_lt, List, [], ◌∷◌, if◌then◌else◌}

-- the line that has the row r; past the last row the number of lines
unfoldable pub line_of : List ℕ → ℕ → ℕ
line_of [] r = 0
line_of (n ∷ counts) r = if nat_lt r n then 0 else suc (line_of counts (r - n))

-- how many rows of its line are above the row r; none past the last row
unfoldable pub rows_above : List ℕ → ℕ → ℕ
rows_above [] r = 0
rows_above (n ∷ counts) r = if nat_lt r n then r else rows_above counts (r - n)
