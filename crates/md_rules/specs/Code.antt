-- Code blocks by their indent, and the text of code lines.
use Rattle.std.specs.Prelude.{ℕ, zero, suc, ◌-◌, nat_le, Bool, List, [], ◌∷◌, ◌++◌, replicate, if◌then◌else◌}
use Rattle.md_lines.specs.Lines.{LineText, is_empty}

-- an indent of at least 4
abbrev pub is_code : LineText → Bool
is_code line = nat_le 4 line.indent

-- an empty line is taken if a line after it is, and else given back
abbrev pub if_more : ℕ → ℕ
if_more zero = 0
if_more (suc n) = suc (suc n)

-- how many lines hang below a line: those that are empty or have at least so much indent, up to the last nonempty one
unfoldable pub hanging : ℕ → List LineText → ℕ
hanging column [] = 0
hanging column (line ∷ lines) =
    if is_empty line then if_more (hanging column lines)
    else if nat_le column line.indent then suc (hanging column lines)
    else 0

-- the text of a line from a column on: a space for each column of the indent behind it, and the body
abbrev pub text_from : ℕ → LineText → List ℕ
text_from column line = replicate (line.indent - column) 32 ++ line.body
