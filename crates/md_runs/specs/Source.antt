-- The source of inlines.
use Rattle.std.specs.Prelude.{ℕ, zero, suc, ◌+◌, List, [], ◌∷◌, length}
use Rattle.std.specs.List.{join_with_byte}
use Rattle.md_lines.specs.Blanks.{without_end_blanks}

-- The source is the bodies of its lines with LF between each two, without the blanks at the end of the last line.
-- No body holds LF, so each LF is the end of a line that is not the last.
abbrev pub source_of : List (List ℕ) → List ℕ
source_of bodies = without_end_blanks (join_with_byte 10 bodies)

-- a source, and the bodies of the lines that it is made of
pub record Lined : Type 0 where
  pub text : List ℕ
  pub bodies : List (List ℕ)

-- where the line behind the first so many begins in the source
abbrev pub line_start : ℕ → List (List ℕ) → ℕ
line_start zero bodies = 0
line_start (suc n) [] = 0
line_start (suc n) (body ∷ bodies) = length body + 1 + line_start n bodies

-- the body of the line behind the first so many
abbrev pub body_at : ℕ → List (List ℕ) → List ℕ
body_at n [] = []
body_at zero (body ∷ bodies) = body
body_at (suc n) (body ∷ bodies) = body_at n bodies
