-- Lines of a text: it is cut at LF, CRLF and CR.
use Rattle.std.specs.Prelude.{◌≡◌, ℕ, suc, ◌==◌, Bool, true, not, ◌||◌, ◌&&◌, List, [], ◌∷◌, if◌then◌else◌}
use Rattle.std.specs.List.{list_all}

-- LF or CR
abbrev pub ends_line : ℕ → Bool
ends_line b = b == 10 || b == 13

-- neither LF nor CR stands in these bytes
abbrev pub is_one_line : List ℕ → Bool
is_one_line bytes = list_all (λ b. not (ends_line b)) bytes

-- a byte in front of the first line
abbrev pub in_front : ℕ → List (List ℕ) → List (List ℕ)
in_front b [] = (b ∷ []) ∷ []
in_front b (line ∷ lines) = (b ∷ line) ∷ lines

-- an end of a line, in front of bytes with the lines that are given: CR and LF together end one line
abbrev pub ended : ℕ → List ℕ → List (List ℕ) → List (List ℕ)
ended b [] lines = [] ∷ lines
ended b (c ∷ cs) lines = if b == 13 then (if c == 10 then lines else [] ∷ lines) else [] ∷ lines

-- the text cut at LF, CRLF and CR; an end that closes the text adds no line
unfoldable pub raw_lines : List ℕ → List (List ℕ)
raw_lines [] = []
raw_lines (b ∷ bs) = if ends_line b then ended b bs (raw_lines bs) else in_front b (raw_lines bs)

-- how many bytes stand before the first line end
unfoldable pub first_end : List ℕ → ℕ
first_end [] = 0
first_end (b ∷ bs) = if ends_line b then 0 else suc (first_end bs)

-- nothing is left, or a line end stands in front
abbrev pub AtEnd : List ℕ → Type 0
AtEnd [] = Unit {0}
AtEnd (b ∷ bs) = ends_line b ≡ true

-- how many bytes the line end in front has
unfoldable pub end_length : List ℕ → ℕ
end_length [] = 0
end_length (b ∷ []) = 1
end_length (b ∷ c ∷ cs) = if b == 13 && c == 10 then 2 else 1

-- what stands after the line end in front
unfoldable pub after_end : List ℕ → List ℕ
after_end [] = []
after_end (b ∷ []) = []
after_end (b ∷ c ∷ cs) = if b == 13 && c == 10 then cs else c ∷ cs
