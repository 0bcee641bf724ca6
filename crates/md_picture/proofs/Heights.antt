-- A row is one line high at least.
use Rattle.std.proofs.Common.{◌≡◌, ℕ, ◌≤◌, List, [], ◌∷◌, length, max, ap, arith}
use Rattle.term_text.specs.Text.{SpanView}
use Rattle.md_picture.specs.Picture.{height_of}

pub height-one : (parts : List (List (List SpanView))) → 1 ≤ height_of parts
unfolding height_of
height-one [] = omega arith
height-one (rows ∷ parts) = omega (arith, height-one parts)

pub height-begins : (parts : List (List (List SpanView))) → max 1 (height_of parts) ≡ height_of parts
height-begins parts = omega (arith, height-one parts)

pub height-ends : (height : ℕ) (rest parts : List (List (List SpanView))) → rest ≡ [] → 1 ≤ height → max height (height_of rest) ≡ height_of parts → height ≡ height_of parts
unfolding height_of
height-ends height [] parts e one h = omega (arith, one, h)
height-ends height (rows ∷ rest) parts e one h = absurd (omega (arith, ap length e))
