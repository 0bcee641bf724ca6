-- Metadata: the lines between two lines of dashes at a document's start.
use Rattle.std.specs.Prelude.{ℕ, ◌+◌, ◌==◌, nat_lt, Bool, false, not, ◌&&◌, Option, None, Some, List, [], ◌∷◌, length, codes, if◌then◌else◌}
use Rattle.std.specs.List.{position_or_len}
use Rattle.md_lines.specs.Lines.{LineText, is_empty}
use Rattle.md_rules.specs.Texts.{trimmed}
use Rattle.md_rules.specs.Quotes.{is_same}

-- indent 0 and nothing but `---`
abbrev pub is_dashes : LineText → Bool
is_dashes line = line.indent == 0 && is_same (trimmed line.body) (codes "---")

-- how many lines stand before the first of dashes
abbrev pub before_dashes : List LineText → ℕ
before_dashes lines = position_or_len is_dashes lines

-- the next line is there and not empty, and one of the lines has dashes
abbrev pub has_content : List LineText → Bool
has_content [] = false
has_content (next ∷ later) = not (is_empty next) && nat_lt (before_dashes (next ∷ later)) (length (next ∷ later))

-- How many lines stand between the dashes, if the lines of a document begin with metadata. The metadata ends with the first
-- later line of dashes, which may be the next one.
abbrev pub metadata_in : List LineText → Option ℕ
metadata_in [] = None
metadata_in (line ∷ later) = if is_dashes line && has_content later then Some (before_dashes later) else None

-- how many lines the metadata takes, with those of dashes
abbrev pub metadata_lines : Option ℕ → ℕ
metadata_lines None = 0
metadata_lines (Some n) = n + 2
