-- Parts of a line's text.
use Rattle.std.specs.Prelude.{ℕ, ◌==◌, Bool, true, false, List, [], ◌∷◌, drop, if◌then◌else◌}
use Rattle.std.specs.List.{prefix_len}
use Rattle.term_text.specs.LineEnds.{in_front}
use Rattle.md_lines.specs.Blanks.{is_blank, without_end_blanks}

-- the bytes without the blanks at their start
abbrev pub without_start_blanks : List ℕ → List ℕ
without_start_blanks bs = drop (prefix_len is_blank bs) bs

-- the bytes without the blanks at both ends
abbrev pub trimmed : List ℕ → List ℕ
trimmed bs = without_end_blanks (without_start_blanks bs)

-- this byte stands in front
abbrev pub begins_with : ℕ → List ℕ → Bool
begins_with c [] = false
begins_with c (b ∷ bs) = b == c

-- a blank or the end stands in front
abbrev pub ends_word : List ℕ → Bool
ends_word [] = true
ends_word (b ∷ bs) = is_blank b

-- the words between blanks
unfoldable pub words : List ℕ → List (List ℕ)
words [] = []
words (b ∷ bs) =
    if is_blank b then words bs
    else if ends_word bs then (b ∷ []) ∷ words bs
    else in_front b (words bs)
