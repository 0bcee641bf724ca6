-- How fair widths grow: which column has one more when there is one more to share.
use Rattle.std.specs.Prelude.{ℕ, ◌+◌, nat_lt, Bool, ◌&&◌, ◌==◌, if◌then◌else◌, Option, None, Some, List, [], ◌∷◌, min}
use Rattle.md_columns.specs.declared.bounds.Bounds.{Bounds}

-- whether a column of this width has less than all that it needs
abbrev pub lacks : Bounds → ℕ → Bool
lacks column width = nat_lt width column.most

-- the lesser of a width and another, if there is another
abbrev pub lesser : ℕ → Option ℕ → ℕ
lesser width None = width
lesser width (Some other) = min width other

-- the width of the narrowest columns that are below their most, if there are any
unfoldable pub narrowest : List Bounds → List ℕ → Option ℕ
narrowest [] widths = None
narrowest (column ∷ columns) [] = None
narrowest (column ∷ columns) (width ∷ widths) =
    if lacks column width then Some (lesser width (narrowest columns widths)) else narrowest columns widths

-- one more for the leftmost column of this width that is below its most
unfoldable pub one_more_at : ℕ → List Bounds → List ℕ → List ℕ
one_more_at least [] widths = widths
one_more_at least (column ∷ columns) [] = []
one_more_at least (column ∷ columns) (width ∷ widths) =
    if lacks column width && width == least then (width + 1) ∷ widths else width ∷ one_more_at least columns widths

-- one more for the leftmost of the narrowest columns that are below their most, if there are any
abbrev pub one_more : Option ℕ → List Bounds → List ℕ → List ℕ
one_more None columns widths = widths
one_more (Some least) columns widths = one_more_at least columns widths

-- widths where the leftmost of the narrowest columns that are below their most has one more
abbrev pub widened : List Bounds → List ℕ → List ℕ
widened columns widths = one_more (narrowest columns widths) columns widths
