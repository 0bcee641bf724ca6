-- What contracts see of a page, and the rows of its lines.
use Rattle.std.specs.Prelude.{◌≡◌, ℕ, Bool, false, ◌||◌, nat_lt, List, [], ◌∷◌, ◌++◌, length, map, take}
use Rattle.std.specs.List.{list_any, sum}
use Rattle.term_core.specs.Graph.{Grapheme, graphs}
use Rattle.term_core.specs.Text.{LineView}
use Rattle.term_core.specs.Wrap.{wrap}
use Rattle.term_core.specs.declared.rect.Rect.{Rect}
use Rattle.term_core.specs.Rect.{is_empty}

pub record PageView : Type 0 where
  pub width : ℕ
  pub lines : List LineView

-- the rows of lines on a page of the width w: the wraps of the lines, in order
unfoldable pub rows_of : ℕ → List LineView → List (List Grapheme)
rows_of w [] = []
rows_of w (line ∷ lines) = wrap w (graphs line) ++ rows_of w lines

-- the rows of a page
abbrev pub page_rows : PageView → List (List Grapheme)
page_rows page = rows_of page.width page.lines

-- how many rows each line has on a page of the width w
abbrev pub row_counts : ℕ → List LineView → List ℕ
row_counts w lines = map (λ line. length (wrap w (graphs line))) lines

-- how many rows each line of a page has
abbrev pub line_counts : PageView → List ℕ
line_counts page = row_counts page.width page.lines

-- the number of the row that a line begins with: the sum of the rows of the earlier lines
abbrev pub first_row : PageView → ℕ → ℕ
first_row page index = sum (take index (line_counts page))

-- whether some grapheme is wider than w
abbrev pub is_wider : ℕ → List Grapheme → Bool
is_wider w gs = list_any (λ g. nat_lt w g.width) gs

-- whether some visible grapheme of the lines is wider than w
unfoldable pub any_wider : ℕ → List LineView → Bool
any_wider w [] = false
any_wider w (line ∷ lines) = is_wider w (graphs line) || any_wider w lines

-- no visible grapheme of the lines is wider than w
abbrev pub AllFit : ℕ → List LineView → Type 0
AllFit w lines = any_wider w lines ≡ false

-- the rectangle is empty, or as wide as the page
abbrev pub FitsPage : Rect → PageView → Type 0
FitsPage cut page = is_empty cut ≡ false → cut.width ≡ page.width
