-- Lines of Markdown: an indent and a body.
use Rattle.std.specs.Prelude.{ℕ, ◌+◌, ◌==◌, Bool, true, false, if◌then◌else◌, List, [], ◌∷◌, map}
use Rattle.term_text.specs.LineEnds.{raw_lines}

-- a line is its indent, in columns, and its body
pub record LineText : Type 0 where
  pub indent : ℕ
  pub body : List ℕ

-- a line with so many columns more
abbrev pub deeper : ℕ → LineText → LineText
deeper n line = record { indent = n + line.indent; body = line.body }

-- the indent is one for each space and four for each tab of the leading blanks, and the body is the rest
unfoldable pub line_of : List ℕ → LineText
line_of [] = record { indent = 0; body = [] }
line_of (b ∷ bs) =
    if b == 32 then deeper 1 (line_of bs)
    else if b == 9 then deeper 4 (line_of bs)
    else record { indent = 0; body = b ∷ bs }

-- the lines of a text, which is cut at LF, CRLF and CR
abbrev pub lines_of : List ℕ → List LineText
lines_of text = map line_of (raw_lines text)

-- a line is empty if its body is
abbrev pub is_nothing : List ℕ → Bool
is_nothing [] = true
is_nothing (b ∷ bs) = false

abbrev pub is_empty : LineText → Bool
is_empty line = is_nothing line.body

-- the body of a line
abbrev pub body_of : LineText → List ℕ
body_of line = line.body
