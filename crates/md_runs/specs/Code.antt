-- The text of code.
use Rattle.std.specs.Prelude.{ℕ, suc, ◌-◌, ◌==◌, Bool, not, ◌&&◌, if◌then◌else◌, List, [], ◌∷◌, length, map, slice_index}
use Rattle.std.specs.List.{slice_range, list_all}

-- a line end counts as a space
abbrev pub spaced : ℕ → ℕ
spaced b = if b == 10 then 32 else b

abbrev pub is_space : ℕ → Bool
is_space b = b == 32

abbrev pub counts_as_space : ℕ → Bool
counts_as_space b = is_space (spaced b)

-- a space stands at either end
abbrev pub has_outer_spaces : List ℕ → Bool
has_outer_spaces bs = is_space (slice_index bs 0) && is_space (slice_index bs (length bs - 1))

-- a space stands at either end, and not only spaces stand there
abbrev pub is_padded : List ℕ → Bool
is_padded bs = has_outer_spaces bs && not (list_all is_space bs)

-- one space is taken off at each side of a padded text
abbrev pub unpadded : List ℕ → List ℕ
unpadded bs = if is_padded bs then slice_range bs 1 (length bs - 1) else bs

-- the text of code, from what stands between its backticks
abbrev pub code_text : List ℕ → List ℕ
code_text bs = unpadded (map spaced bs)

-- how many bytes are taken off at either side of what stands between the backticks
abbrev pub padding : List ℕ → ℕ
padding bs = if is_padded (map spaced bs) then 1 else 0

-- how many bytes stand before the first line end
unfoldable pub first_line_end : List ℕ → ℕ
first_line_end [] = 0
first_line_end (b ∷ bs) = if b == 10 then 0 else suc (first_line_end bs)
