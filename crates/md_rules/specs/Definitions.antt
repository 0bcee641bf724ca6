-- Definition lists: titles, and descriptions behind colons.
use Rattle.std.specs.Prelude.{ℕ, ◌+◌, ◌==◌, Bool, false, not, ◌&&◌, List, [], ◌∷◌, drop}
use Rattle.md_lines.specs.Blanks.{is_blank}
use Rattle.md_lines.specs.Lines.{LineText, line_of}
use Rattle.md_rules.specs.Shallow.{is_shallow}
use Rattle.md_rules.specs.Texts.{trimmed}
use Rattle.md_rules.specs.Code.{hanging}
use Rattle.md_rules.specs.Quotes.{less}
use Rattle.md_rules.specs.Hung.{hung}

-- a blank stands in front
abbrev pub begins_blank : List ℕ → Bool
begins_blank [] = false
begins_blank (b ∷ bs) = is_blank b

-- `:` and a blank stand in front
abbrev pub has_colon : List ℕ → Bool
has_colon [] = false
has_colon (b ∷ bs) = b == 58 && begins_blank bs

-- a description begins at this line, behind a title or another description
abbrev pub describes : LineText → Bool
describes line = is_shallow line && has_colon line.body

-- a definition list begins at a line before this one: the line is a title, and the next one begins its description
abbrev pub begins_definitions : LineText → LineText → Bool
begins_definitions line next = is_shallow line && not (has_colon line.body) && describes next

abbrev pub starts_definitions : LineText → List LineText → Bool
starts_definitions line [] = false
starts_definitions line (next ∷ later) = begins_definitions line next

-- the content of a title is one line
abbrev pub title_of : LineText → LineText
title_of line = record { indent = 0; body = trimmed line.body }

-- the indent that a description's further lines have, and lose
abbrev pub description_column : LineText → ℕ
description_column line = line.indent + 2

-- how many further lines the description takes
abbrev pub description_more : LineText → List LineText → ℕ
description_more line later = hanging (description_column line) later

-- the lines of a description: what follows the colon, less one column, and its further lines
abbrev pub description_lines : LineText → List LineText → List LineText
description_lines line own = hung (description_column line) (less 1 (line_of (drop 1 line.body))) own
