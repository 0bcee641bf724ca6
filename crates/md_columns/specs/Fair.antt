-- Fair widths: each column has its least width at least, and what is left goes to the narrowest columns first.
use Rattle.std.specs.Prelude.{◌<◌, ◌≤◌, slice_index_or, ℕ, zero, suc, ◌+◌, ◌-◌, nat_le, nat_lt, Bool, ◌&&◌, if◌then◌else◌, Option, None, Some, List, [], ◌∷◌, map, sum_by, min, max}
use Rattle.md_columns.specs.declared.bounds.Bounds.{Bounds}
use Rattle.md_columns.specs.declared.bounds.Choice.{Choice}
use Rattle.md_columns.specs.declared.bounds.Choice.TheVariants.{Least, Most, At}

-- a column's width at a level: the level, but not over the most and not below the least
abbrev pub width_at : ℕ → Bounds → ℕ
width_at level column = max column.least (min column.most level)

-- one width for each column
abbrev pub width_of : Choice → Bounds → ℕ
width_of Least column = column.least
width_of Most column = column.most
width_of (At level) column = width_at level column

-- the widths that are chosen, together
abbrev pub total : Choice → List Bounds → ℕ
total choice columns = sum_by (λ column. width_of choice column) columns

-- what is left of a budget, if it suffices
abbrev pub left_over : ℕ → ℕ → Option ℕ
left_over sum budget = if nat_le sum budget then Some (budget - sum) else None

-- the greatest level up to this one whose widths fit the budget
unfoldable pub level_up_to : ℕ → ℕ → List Bounds → ℕ
level_up_to zero budget columns = 0
level_up_to (suc n) budget columns =
    if nat_le (total (At (suc n)) columns) budget then suc n else level_up_to n budget columns

-- the most that any column needs: no level past it changes a width
unfoldable pub widest : List Bounds → ℕ
widest [] = 0
widest (column ∷ columns) = max column.most (widest columns)

-- the greatest level whose widths fit the budget
abbrev pub level : ℕ → List Bounds → ℕ
level budget columns = level_up_to (widest columns) budget columns

-- whether a column is wider at the next level
abbrev pub grows : ℕ → Bounds → Bool
grows level column = nat_le column.least level && nat_lt level column.most

-- the widths at a level, where the first so many columns that grow have one more
unfoldable pub grown : ℕ → ℕ → List Bounds → List ℕ
grown level spare [] = []
grown level zero (column ∷ columns) = width_at level column ∷ grown level zero columns
grown level (suc spare) (column ∷ columns) =
    if grows level column then (width_at level column + 1) ∷ grown level spare columns
    else width_at level column ∷ grown level (suc spare) columns

-- the widths of the columns of a table that has a budget for them: all that they need if that fits, the least if
-- nothing more fits, and else those at the greatest level that fits, with what is left for the first that grow
abbrev pub fair : ℕ → List Bounds → List ℕ
fair budget columns =
    if nat_le (total Most columns) budget then map (λ column. column.most) columns
    else if nat_le budget (total Least columns) then map (λ column. column.least) columns
    else grown (level budget columns) (budget - total (At (level budget columns)) columns) columns

-- each column can have its least width
abbrev pub Ordered : List Bounds → Type 0
Ordered [] = Unit {0}
Ordered (column ∷ columns) = (column.least ≤ column.most) × Ordered columns

-- widths that lie between the bounds of their columns
abbrev pub Within : List Bounds → List ℕ → Type 0
Within [] [] = Unit {0}
Within [] (width ∷ widths) = ⊥
Within (column ∷ columns) [] = ⊥
Within (column ∷ columns) (width ∷ widths) = (column.least ≤ width) × (width ≤ column.most) × Within columns widths

-- a division that gives a column j more gives some column less, and each such column is here at most one wider than j
pub record Taken (widths others : List ℕ) (j : ℕ) : Type 0 where
  pub column : ℕ
  pub less : slice_index_or others column 0 < slice_index_or widths column 0
  pub near : (i : ℕ) → slice_index_or others i 0 < slice_index_or widths i 0 → slice_index_or widths i 0 ≤ slice_index_or widths j 0 + 1
