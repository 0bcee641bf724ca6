-- How many rows are cut where some are drawn, and how many places are probed to find the first.
use Rattle.std.specs.Prelude.{ℕ, ◌+◌, ◌-◌, ◌*◌, ◌^◌, ◌≤◌, Bool, not, ◌&&◌, nat_lt, min, length, if◌then◌else◌}
use Rattle.term_core.specs.declared.rect.Rect.{Rect}
use Rattle.term_core.specs.Rect.{is_empty}
use Rattle.term_widgets.specs.Page.{PageView, line_counts, page_rows}
use Rattle.term_widgets.specs.RowPlace.{rows_above}

-- a drawing of h rows from the row r on cuts these, as far as the page has them, and those above them in their first line
abbrev pub rows_cut : PageView → ℕ → ℕ → ℕ
rows_cut page h r = rows_above (line_counts page) r + min h (length (page_rows page) - r)

-- a drawing from the row r on cuts none on an empty area
abbrev pub rows_cut_on : Rect → PageView → ℕ → ℕ
rows_cut_on cut page r = if is_empty cut then 0 else rows_cut page cut.height r

-- whether a drawing from the row r on shows a row of the page
abbrev pub shows_row : Rect → PageView → ℕ → Bool
shows_row cut page r = not (is_empty cut) && nat_lt r (length (page_rows page))

-- so many notes lead from the one state to the other, or fewer
pub record IsNotedUpTo {S : Type 0} (noted : ℕ → S → S → Type 0) (most : ℕ) (old new : S) : Type 0 where
  pub count : ℕ
  pub bound : count ≤ most
  pub notes : noted count old new

-- as many notes as it takes to halve so many lines down to one
pub record IsHalving {S : Type 0} (noted : ℕ → S → S → Type 0) (lines : ℕ) (old new : S) : Type 0 where
  pub count : ℕ
  pub bound : 2 ^ count ≤ 2 * lines + 1
  pub some : 2 ≤ lines → 1 ≤ count
  pub notes : noted count old new
