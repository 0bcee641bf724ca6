-- Pairs of runs among the parts of a level.
use Rattle.std.specs.Prelude.{ℕ, ◌-◌, ◌==◌, nat_le, nat_lt, Bool, true, false, not, ◌&&◌, ◌||◌, if◌then◌else◌, Option, None, Some, List, [], ◌∷◌, ◌++◌, take, drop, position}
use Rattle.std.specs.List.{slice_range, list_any}
use Rattle.md_lines.specs.Blanks.{is_blank}
use Rattle.md_leaves.specs.declared.leaf.Kind.{Kind}
use Rattle.md_leaves.specs.declared.leaf.Kind.TheVariants as kind
use Rattle.md_leaves.specs.declared.leaf.Leaf.{Leaf}
use Rattle.md_leaves.specs.declared.leaf.Mark.{Mark}
use Rattle.md_leaves.specs.declared.leaf.Mark.TheVariants as mark
use Rattle.md_runs.specs.declared.pair.Pair.{Pair}
use Rattle.md_runs.specs.Brackets.{Part, Single, Grouped}

-- how many bytes a leaf has; a run has so many characters
abbrev pub size : Leaf → ℕ
size l = l.to - l.from

abbrev pub same_mark : Mark → Mark → Bool
same_mark mark.Star mark.Star = true
same_mark mark.Underscore mark.Underscore = true
same_mark mark.Tilde mark.Tilde = true
same_mark mark.Caret mark.Caret = true
same_mark _ _ = false

-- the runs that may be the first of a pair: * and _ of 1, 2 or 3, ~ of 1 or 2, ^ of 1
abbrev pub has_style : Mark → ℕ → Bool
has_style mark.Star n = nat_lt 0 n && nat_lt n 4
has_style mark.Underscore n = nat_lt 0 n && nat_lt n 4
has_style mark.Tilde n = n == 1 || n == 2
has_style mark.Caret n = n == 1

-- subscript and superscript are runs of 1 of ~ and ^
abbrev pub is_script : Mark → ℕ → Bool
is_script mark.Star n = false
is_script mark.Underscore n = false
is_script mark.Tilde n = n == 1
is_script mark.Caret n = n == 1

-- the runs that a run of n pairs with: as many characters; of * and _ for 1 and 2 also 3
abbrev pub size_fits : Mark → ℕ → ℕ → Bool
size_fits mark.Star n m = m == n || (m == 3 && nat_lt n 3)
size_fits mark.Underscore n m = m == n || (m == 3 && nat_lt n 3)
size_fits mark.Tilde n m = m == n
size_fits mark.Caret n m = m == n

abbrev pub is_closing : Kind → Bool
is_closing (kind.Run mark opens closes) = closes
is_closing _ = false

-- the search of a run of n for its partner ends at a run that fits and may close; that of a script ends at the next run
-- of 1 of its character
abbrev pub ends_search : Mark → ℕ → Kind → ℕ → Bool
ends_search m n (kind.Run mark opens closes) k = (same_mark m mark && size_fits m n k) && (closes || is_script m n)
ends_search m n _ k = false

abbrev pub part_ends_search : Mark → ℕ → Part → Bool
part_ends_search m n (Single l) = ends_search m n l.kind (size l)
part_ends_search m n (Grouped is_image target ls) = false

-- how many parts stand before the first at which the search of a run of n ends
abbrev pub search : Mark → ℕ → List Part → Option ℕ
search m n ps = position (λ p. part_ends_search m n p) ps

-- a blank or a line end
abbrev pub is_gap : ℕ → Bool
is_gap b = is_blank b || b == 10

-- no blank and no line end stands in the source between two places
abbrev pub is_solid : List ℕ → ℕ → ℕ → Bool
is_solid source from to = not (list_any is_gap (slice_range source from to))

-- a script pairs only with a run that may close, and with no blank and no line end between the two
abbrev pub is_taken : List ℕ → Mark → ℕ → ℕ → List Part → Bool
is_taken source m n from [] = false
is_taken source m n from (Single l ∷ ps) = not (is_script m n) || (is_closing l.kind && is_solid source from l.from)
is_taken source m n from (Grouped is_image target ls ∷ ps) = false

abbrev pub pair_with : List ℕ → Mark → ℕ → ℕ → Option ℕ → List Part → Option Pair
pair_with source m n from None ps = None
pair_with source m n from (Some k) ps =
    if is_taken source m n from (drop k ps) then Some (record { mark = m; size = n; more = k }) else None

-- how many levels a pair has: strong holding emphasis is two
abbrev pub cost : ℕ → ℕ
cost n = if n == 3 then 2 else 1

-- the pair that a leaf of a kind is the first of, where so many levels are left
abbrev pub pair_of : List ℕ → ℕ → Kind → ℕ → ℕ → List Part → Option Pair
pair_of source levels (kind.Run m opens closes) n to ps =
    if (opens && has_style m n) && nat_le (cost n) levels then pair_with source m n to (search m n ps) ps else None
pair_of source levels _ n to ps = None

abbrev pub pair_at : List ℕ → ℕ → Part → List Part → Option Pair
pair_at source levels (Single l) ps = pair_of source levels l.kind (size l) l.to ps
pair_at source levels (Grouped is_image target ls) ps = None

abbrev pub first_pair : List ℕ → ℕ → List Part → Option Pair
first_pair source levels [] = None
first_pair source levels (p ∷ ps) = pair_at source levels p ps

-- the characters of a closer that are left when n of them are taken from its end
abbrev pub left_over : ℕ → List Part → List Part
left_over n [] = []
left_over n (Single l ∷ ps) =
    if size l == n then [] else Single (record { kind = l.kind; from = l.from; to = l.to - n }) ∷ []
left_over n (Grouped is_image target ls ∷ ps) = []

-- the inside of a pair of n: the k parts before the closer, and what is left of it as a run of its own
abbrev pub between : ℕ → ℕ → List Part → List Part
between n k ps = take k ps ++ left_over n (drop k ps)
