-- How a walk along graphemes finds the end of a row.
use Rattle.std.specs.Prelude.{ℕ, suc, ◌+◌, ◌-◌, ◌==◌, Bool, true, false, ◌&&◌, nat_lt, List, [], ◌∷◌, if◌then◌else◌}
use Rattle.term_text.specs.Graph.{Grapheme}

-- the index of the last blank, at `count` or before, but not at 0
abbrev pub mark_of : Bool → ℕ → ℕ → ℕ
mark_of blank count mark = if nat_lt 0 count && blank then count else mark

abbrev pub len_of : ℕ → ℕ → ℕ
len_of mark count = if nat_lt 0 mark then mark else count

-- how many graphemes the row has, and whether it is the last, from a place where `count` are passed and `room` columns are left
unfoldable pub cut_from : ℕ → ℕ → ℕ → List Grapheme → ℕ × Bool
cut_from room count mark [] = (count, true)
cut_from room count mark (g ∷ gs) =
    if nat_lt room g.width then (len_of (mark_of g.blank count mark) count, false)
    else cut_from (room - g.width) (count + 1) (mark_of g.blank count mark) gs

-- the mark after a walk along printable bytes
unfoldable pub mark_after : List ℕ → ℕ → ℕ → ℕ
mark_after [] count mark = mark
mark_after (b ∷ bs) count mark = mark_after bs (count + 1) (mark_of (b == 32) count mark)

-- how many spaces stand in front
unfoldable pub leading_spaces : List ℕ → ℕ
leading_spaces [] = 0
leading_spaces (b ∷ bs) = if b == 32 then suc (leading_spaces bs) else 0
