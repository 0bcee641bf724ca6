-- Footnote definitions.
use Rattle.std.specs.Prelude.{ℕ, ◌+◌, ◌==◌, nat_lt, Bool, false, ◌&&◌, ◌||◌, Option, None, Some, List, [], ◌∷◌, length, take, drop, if◌then◌else◌}
use Rattle.std.specs.List.{position_or_len}
use Rattle.md_lines.specs.Blanks.{is_blank}
use Rattle.md_lines.specs.Lines.{LineText, line_of}
use Rattle.md_rules.specs.Shallow.{is_shallow}
use Rattle.md_rules.specs.Texts.{begins_with}
use Rattle.md_rules.specs.Code.{hanging}
use Rattle.md_rules.specs.Hung.{hung}

-- `[^` stands in front
abbrev pub opens_label : List ℕ → Bool
opens_label [] = false
opens_label (b ∷ bs) = b == 91 && begins_with 94 bs

-- `]:` stands in front
abbrev pub closes_label : List ℕ → Bool
closes_label [] = false
closes_label (b ∷ bs) = b == 93 && begins_with 58 bs

-- a bracket or a blank is of no label
abbrev pub ends_label : ℕ → Bool
ends_label b = (b == 91 || b == 93) || is_blank b

-- how long the label is that stands in front
abbrev pub label_length : List ℕ → ℕ
label_length bs = position_or_len ends_label bs

-- one character at least, and `]:` behind them
abbrev pub closed_label : List ℕ → Option (List ℕ)
closed_label bs =
    if nat_lt 0 (label_length bs) && closes_label (drop (label_length bs) bs) then Some (take (label_length bs) bs) else None

-- the label between `[^` and `]:`
abbrev pub label_in : List ℕ → Option (List ℕ)
label_in body = if opens_label body then closed_label (drop 2 body) else None

-- the label of the footnote definition that begins at a line
abbrev pub footnote_label : LineText → Option (List ℕ)
footnote_label line = if is_shallow line then label_in line.body else None

-- what stands behind the colon, without its indent
abbrev pub footnote_line : List ℕ → LineText → LineText
footnote_line label line = record { indent = 0; body = (line_of (drop (length label + 4) line.body)).body }

-- how many further lines the definition takes
abbrev pub footnote_more : List LineText → ℕ
footnote_more later = hanging 4 later

-- the lines of the definition of this label, which has these further lines
abbrev pub footnote_lines : List ℕ → LineText → List LineText → List LineText
footnote_lines label line own = hung 4 (footnote_line label line) own
