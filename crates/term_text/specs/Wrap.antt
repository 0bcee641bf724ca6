-- The rows that a list of graphemes is cut into.
use Rattle.std.specs.Prelude.{◌≡◌, ℕ, zero, suc, ◌-◌, ◌≤◌, Bool, true, false, nat_le, List, [], ◌∷◌, length, take, drop, if◌then◌else◌}
use Rattle.std.specs.List.{All}
use Rattle.term_text.specs.Graph.{Grapheme, columns}

-- how many graphemes from the front fit in w columns: the first index whose running width passes w
unfoldable pub fitting : ℕ → List Grapheme → ℕ
fitting w [] = 0
fitting w (g ∷ gs) = if nat_le g.width w then suc (fitting (w - g.width) gs) else 0

abbrev pub is_blank_at : List Grapheme → ℕ → Bool
is_blank_at [] i = false
is_blank_at (g ∷ gs) zero = g.blank
is_blank_at (g ∷ gs) (suc i) = is_blank_at gs i

-- the greatest of the indices 1 to i whose grapheme is blank, else d
unfoldable pub last_blank : List Grapheme → ℕ → ℕ → ℕ
last_blank gs zero d = d
last_blank gs (suc i) d = if is_blank_at gs (suc i) then suc i else last_blank gs i d

-- where a row of graphemes that do not all fit ends
abbrev pub cut_of : ℕ → List Grapheme → ℕ
cut_of w gs = last_blank gs (fitting w gs) (fitting w gs)

unfoldable pub skip_blanks : List Grapheme → List Grapheme
skip_blanks [] = []
skip_blanks (g ∷ gs) = if g.blank then skip_blanks gs else g ∷ gs

-- what is left after the first of several rows
abbrev pub rest_of : ℕ → List Grapheme → List Grapheme
rest_of w gs = skip_blanks (drop (cut_of w gs) gs)

-- no rows if nothing is left
abbrev pub unless_empty : List Grapheme → List (List Grapheme) → List (List Grapheme)
unless_empty [] rows = []
unless_empty (g ∷ gs) rows = rows

-- the rows, where at most n cuts are made
unfoldable pub wrap_within : ℕ → ℕ → List Grapheme → List (List Grapheme)
wrap_within zero w gs = gs ∷ []
wrap_within (suc n) w gs =
    if nat_le (columns gs) w then gs ∷ []
    else take (cut_of w gs) gs ∷ unless_empty (rest_of w gs) (wrap_within n w (rest_of w gs))

-- the rows of at most w columns
unfoldable pub wrap : ℕ → List Grapheme → List (List Grapheme)
wrap w gs = wrap_within (length gs) w gs

-- no grapheme is wider than w
abbrev pub NoneWider : ℕ → List Grapheme → Type 0
NoneWider w gs = All (λ g. g.width ≤ w) gs

-- the second list is the first without some blanks
pub data Thinned : List Grapheme → List Grapheme → Type 0 where
  none : Thinned [] []
  keep : (g : Grapheme) {gs rest : List Grapheme} → Thinned gs rest → Thinned (g ∷ gs) (g ∷ rest)
  skip : (g : Grapheme) {gs rest : List Grapheme} → g.blank ≡ true → Thinned gs rest → Thinned (g ∷ gs) rest

-- each row is at most w wide
abbrev pub AllNarrow : ℕ → List (List Grapheme) → Type 0
AllNarrow w rows = All (λ row. columns row ≤ w) rows
