-- Fair widths use the whole budget, and no column could have more but from one that is hardly wider.
use Rattle.std.proofs.Common.{◌≡◌, ℕ, zero, suc, ◌+◌, ◌-◌, ◌<◌, ◌≤◌, Bool, true, false, cond, nat_le, nat_lt, ◌&&◌, List, [], ◌∷◌, length, get_or, map, min, max, sum, sum_by, refl, sym, ap, subst, ◌∙◌, arith}
use Rattle.std.proofs.lemmas.Bool.{and_parts}
use Rattle.std.proofs.lemmas.Bool.Decides.{nat_tests}
use Rattle.std.proofs.lemmas.List.{length-map}
use Rattle.std.proofs.lemmas.List.Sums.{sum_by-cons}
use Rattle.md_columns.specs.declared.bounds.Bounds.{Bounds}
use Rattle.md_columns.specs.declared.bounds.Choice.TheVariants.{Least, Most, At}
use Rattle.md_columns.specs.Fair.{Ordered, Within, Taken, width_at, total, level_up_to, level, widest, grows, grown, fair}
use Rattle.md_columns.proofs.Levels.{total-cons, total-first, total-widest, total-mono, fits-yes, fits-no, less-yes, less-no}

pub sum-cons : (w : ℕ) (ws : List ℕ) → sum (w ∷ ws) ≡ w + sum ws
sum-cons w ws = sum_by-cons (λ (x : ℕ). x) w ws

-- ---- the level fits, and the next does not

level_up_to-fits : (n budget : ℕ) (columns : List Bounds) → total (At 0) columns ≤ budget → total (At (level_up_to n budget columns)) columns ≤ budget
unfolding level_up_to
level_up_to-fits zero budget columns h = h
level_up_to-fits (suc n) budget columns h = go (nat_le (total (At (suc n)) columns) budget) refl (level_up_to-fits n budget columns h)
  where
    go : (v : Bool) → nat_le (total (At (suc n)) columns) budget ≡ v → total (At (level_up_to n budget columns)) columns ≤ budget → total (At (cond v (suc n) (level_up_to n budget columns))) columns ≤ budget
    go true e k = fits-yes (total (At (suc n)) columns) budget e
    go false e k = k

level_up_to-next : (n budget : ℕ) (columns : List Bounds) → budget < total (At (n + 1)) columns → budget < total (At (level_up_to n budget columns + 1)) columns
unfolding level_up_to
level_up_to-next zero budget columns h = h
level_up_to-next (suc n) budget columns h = go (nat_le (total (At (suc n)) columns) budget) refl (λ over. level_up_to-next n budget columns over)
  where
    go : (v : Bool) → nat_le (total (At (suc n)) columns) budget ≡ v → (budget < total (At (n + 1)) columns → budget < total (At (level_up_to n budget columns + 1)) columns) → budget < total (At (cond v (suc n) (level_up_to n budget columns) + 1)) columns
    go true e k = h
    go false e k =
        let next : suc n ≡ n + 1 = omega arith in
        k (subst (λ m. budget < total (At m) columns) next (fits-no (total (At (suc n)) columns) budget e))

pub level-fits : (budget : ℕ) (columns : List Bounds) → total Least columns ≤ budget → total (At (level budget columns)) columns ≤ budget
level-fits budget columns h = level_up_to-fits (widest columns) budget columns (omega (arith, total-first columns, h))

pub level-next : (budget : ℕ) (columns : List Bounds) → budget < total Most columns → budget < total (At (level budget columns + 1)) columns
level-next budget columns h =
    level_up_to-next (widest columns) budget columns (omega (arith, h, total-widest columns, total-mono (widest columns) (widest columns + 1) columns (omega arith)))

-- ---- one column of widths at a level

-- a width at a level, or one more where the column grows
pub record Near (at : ℕ) (column : Bounds) (width : ℕ) : Type 0 where
  pub low : width_at at column ≤ width
  pub high : width ≤ max (width_at at column) (at + 1)
  pub most : width ≤ max column.least column.most

pub grows-parts : (at : ℕ) (column : Bounds) → grows at column ≡ true → (column.least ≤ at) × (at + 1 ≤ column.most)
grows-parts at column h =
    let parts = and_parts (nat_le column.least at) (nat_lt at column.most) h in
    (fits-yes column.least at parts.0, omega (arith, less-yes at column.most parts.1))

-- the first width, and how many of the others still have one more
pub record First (at spare : ℕ) (column : Bounds) (columns : List Bounds) : Type 0 where
  pub width : ℕ
  pub others : ℕ
  pub is : grown at spare (column ∷ columns) ≡ width ∷ grown at others columns
  pub near : Near at column width

pub grown-first : (at spare : ℕ) (column : Bounds) (columns : List Bounds) → First at spare column columns
unfolding grown
grown-first at zero column columns =
    record { width = width_at at column; others = 0; is = refl; near = record { low = omega arith; high = omega arith; most = omega arith } }
grown-first at (suc spare) column columns = go (grows at column) refl
  where
    go : (v : Bool) → grows at column ≡ v → First at (suc spare) column columns
    go true e =
        let parts = grows-parts at column e in
        record {
          width = width_at at column + 1;
          others = spare;
          is = rw e refl;
          near = record { low = omega arith; high = omega (arith, parts.0, parts.1); most = omega (arith, parts.0, parts.1) };
        }
    go false e =
        record { width = width_at at column; others = suc spare; is = rw e refl; near = record { low = omega arith; high = omega arith; most = omega arith } }

-- ---- the whole budget

-- one for a column that is wider at the next level
abbrev pub growing_one : ℕ → Bounds → ℕ
growing_one at column = cond (grows at column) 1 0

width_at-next : (at : ℕ) (column : Bounds) → width_at (at + 1) column ≡ width_at at column + growing_one at column
width_at-next at column = go (grows at column) refl
  where
    no : (v w : Bool) → nat_le column.least at ≡ v → nat_lt at column.most ≡ w → (v && w) ≡ false → width_at (at + 1) column ≡ width_at at column + 0
    no true true e f h = absurd (grind (arith, nat_tests))
    no true false e f h = grind (arith, nat_tests)
    no false w e f h = grind (arith, nat_tests)

    go : (v : Bool) → grows at column ≡ v → width_at (at + 1) column ≡ width_at at column + cond v 1 0
    go true e = let parts = grows-parts at column e in omega (arith, parts.0, parts.1)
    go false e = no (nat_le column.least at) (nat_lt at column.most) refl refl e

pub total-growing : (at : ℕ) (columns : List Bounds) → total (At (at + 1)) columns ≡ total (At at) columns + sum_by (λ (column : Bounds). growing_one at column) columns
total-growing at [] = refl
total-growing at (column ∷ columns) =
    omega (arith, total-cons (At (at + 1)) column columns, total-cons (At at) column columns, sum_by-cons (λ (c : Bounds). growing_one at c) column columns, width_at-next at column, total-growing at columns)

pub sum-grown : (at spare : ℕ) (columns : List Bounds) → sum (grown at spare columns) ≡ total (At at) columns + min spare (sum_by (λ (column : Bounds). growing_one at column) columns)
unfolding grown
sum-grown at spare [] = omega arith
sum-grown at zero (column ∷ columns) =
    omega (arith, sum-cons (width_at at column) (grown at zero columns), total-cons (At at) column columns, sum-grown at zero columns)
sum-grown at (suc spare) (column ∷ columns) = go (grows at column) refl (sum-grown at spare columns) (sum-grown at (suc spare) columns)
  where
    Claim : Bool → Type 0
    Claim v = sum (cond v ((width_at at column + 1) ∷ grown at spare columns) (width_at at column ∷ grown at (suc spare) columns)) ≡ total (At at) (column ∷ columns) + min (suc spare) (sum_by (λ (c : Bounds). growing_one at c) (column ∷ columns))

    go : (v : Bool) → grows at column ≡ v → sum (grown at spare columns) ≡ total (At at) columns + min spare (sum_by (λ (c : Bounds). growing_one at c) columns) → sum (grown at (suc spare) columns) ≡ total (At at) columns + min (suc spare) (sum_by (λ (c : Bounds). growing_one at c) columns) → Claim v
    go true e less same =
        let one : growing_one at column ≡ 1 = rw e refl in
        omega (arith, sum-cons (width_at at column + 1) (grown at spare columns), total-cons (At at) column columns, sum_by-cons (λ (c : Bounds). growing_one at c) column columns, one, less)
    go false e less same =
        let one : growing_one at column ≡ 0 = rw e refl in
        omega (arith, sum-cons (width_at at column) (grown at (suc spare) columns), total-cons (At at) column columns, sum_by-cons (λ (c : Bounds). growing_one at c) column columns, one, same)

pub sum-least : (columns : List Bounds) → sum (map (λ (column : Bounds). column.least) columns) ≡ total Least columns
sum-least [] = refl
sum-least (column ∷ columns) =
    omega (arith, sum-cons column.least (map (λ (c : Bounds). c.least) columns), total-cons Least column columns, sum-least columns)

pub sum-most : (columns : List Bounds) → sum (map (λ (column : Bounds). column.most) columns) ≡ total Most columns
sum-most [] = refl
sum-most (column ∷ columns) =
    omega (arith, sum-cons column.most (map (λ (c : Bounds). c.most) columns), total-cons Most column columns, sum-most columns)

-- the widths where not all that is needed fits
abbrev shared : ℕ → List Bounds → List ℕ
shared budget columns =
    cond (nat_le budget (total Least columns)) (map (λ (column : Bounds). column.least) columns) (grown (level budget columns) (budget - total (At (level budget columns)) columns) columns)

pub fair-shared : (budget : ℕ) (columns : List Bounds) → budget < total Most columns → fair budget columns ≡ shared budget columns
fair-shared budget columns h = go (nat_le (total Most columns) budget) refl
  where
    go : (v : Bool) → nat_le (total Most columns) budget ≡ v → cond v (map (λ (column : Bounds). column.most) columns) (shared budget columns) ≡ shared budget columns
    go true e = absurd (omega (arith, h, fits-yes (total Most columns) budget e))
    go false e = refl

pub fair-all : (budget : ℕ) (columns : List Bounds) → total Most columns ≤ budget → fair budget columns ≡ map (λ (column : Bounds). column.most) columns
fair-all budget columns h = go (nat_le (total Most columns) budget) refl
  where
    go : (v : Bool) → nat_le (total Most columns) budget ≡ v → cond v (map (λ (column : Bounds). column.most) columns) (shared budget columns) ≡ map (λ (column : Bounds). column.most) columns
    go true e = refl
    go false e = absurd (omega (arith, h, fits-no (total Most columns) budget e))

pub whole_budget : (budget : ℕ) (columns : List Bounds) → total Least columns ≤ budget → budget < total Most columns → sum (fair budget columns) ≡ budget
whole_budget budget columns fits more = ap sum (fair-shared budget columns more) ∙ go (nat_le budget (total Least columns)) refl
  where
    go : (v : Bool) → nat_le budget (total Least columns) ≡ v → sum (cond v (map (λ (column : Bounds). column.least) columns) (grown (level budget columns) (budget - total (At (level budget columns)) columns) columns)) ≡ budget
    go true e = omega (arith, sum-least columns, fits, fits-yes budget (total Least columns) e)
    go false e =
        omega (arith, sum-grown (level budget columns) (budget - total (At (level budget columns)) columns) columns, total-growing (level budget columns) columns, level-fits budget columns fits, level-next budget columns more)

-- the widths take no more than a budget that suffices for the least
pub fair-fits : (budget : ℕ) (columns : List Bounds) → total Least columns ≤ budget → sum (fair budget columns) ≤ budget
fair-fits budget columns fits = go (nat_le (total Most columns) budget) refl
  where
    go : (v : Bool) → nat_le (total Most columns) budget ≡ v → sum (fair budget columns) ≤ budget
    go true e =
        let most = fits-yes (total Most columns) budget e in
        omega (arith, most, ap sum (fair-all budget columns most), sum-most columns)
    go false e = omega (arith, whole_budget budget columns fits (fits-no (total Most columns) budget e))

-- ---- any other division

-- where the others have no more together, but one of them more, another has less
some-less : (ws os : List ℕ) → length ws ≡ length os → sum os < sum ws → (i : ℕ) × (get_or os i 0 < get_or ws i 0)
some-less [] [] e h = absurd (omega (arith, h))
some-less [] (o ∷ os) e h = absurd (omega (arith, h, sum-cons o os))
some-less (w ∷ ws) [] e h = absurd (omega (arith, e))
some-less (w ∷ ws) (o ∷ os) e h = go (nat_lt o w) refl (λ less. some-less ws os (omega (arith, e)) less)
  where
    go : (v : Bool) → nat_lt o w ≡ v → (sum os < sum ws → (i : ℕ) × (get_or os i 0 < get_or ws i 0)) → (i : ℕ) × (get_or (o ∷ os) i 0 < get_or (w ∷ ws) i 0)
    go true t k = (0, less-yes o w t)
    go false t k = let found = k (omega (arith, h, sum-cons w ws, sum-cons o os, less-no o w t)) in (suc found.0, found.1)

-- a width that is more than another between the bounds is at most one past the level
near-high : (at : ℕ) (column : Bounds) (width other : ℕ) → Near at column width → column.least ≤ other → other < width → width ≤ at + 1
near-high at column width other near least less = omega (arith, near.low, near.high, least, less)

-- a width that is less than another between the bounds is at least the level
near-low : (at : ℕ) (column : Bounds) (width other : ℕ) → Near at column width → other ≤ column.most → width < other → at ≤ width
near-low at column width other near most less = omega (arith, near.low, near.high, most, less)

grown-none : (at spare i : ℕ) → get_or (grown at spare []) i 0 ≡ 0
unfolding grown
grown-none at spare zero = refl
grown-none at spare (suc i) = refl

-- the width of the first column, and that of a further one
get-first : (at spare : ℕ) (column : Bounds) (columns : List Bounds) → (first : First at spare column columns) → get_or (grown at spare (column ∷ columns)) 0 0 ≡ first.width
get-first at spare column columns first = ap (λ (ws : List ℕ). get_or ws 0 0) first.is

get-further : (at spare i : ℕ) (column : Bounds) (columns : List Bounds) → (first : First at spare column columns) → get_or (grown at spare (column ∷ columns)) (suc i) 0 ≡ get_or (grown at first.others columns) i 0
get-further at spare i column columns first = ap (λ (ws : List ℕ). get_or ws (suc i) 0) first.is

grown-high : (at spare : ℕ) (columns : List Bounds) (others : List ℕ) (i : ℕ) → Within columns others → get_or others i 0 < get_or (grown at spare columns) i 0 → get_or (grown at spare columns) i 0 ≤ at + 1
grown-high at spare [] [] i within less = absurd (omega (arith, grown-none at spare i, less))
grown-high at spare [] (other ∷ others) i within less = absurd within
grown-high at spare (column ∷ columns) [] i within less = absurd within
grown-high at spare (column ∷ columns) (other ∷ others) zero within less =
    let first = grown-first at spare column columns in
    let is = get-first at spare column columns first in
    omega (arith, is, near-high at column first.width other first.near within.0 (omega (arith, is, less)))
grown-high at spare (column ∷ columns) (other ∷ others) (suc i) within less =
    let first = grown-first at spare column columns in
    let is = get-further at spare i column columns first in
    omega (arith, is, grown-high at first.others columns others i within.2 (omega (arith, is, less)))

grown-low : (at spare : ℕ) (columns : List Bounds) (others : List ℕ) (j : ℕ) → Within columns others → get_or (grown at spare columns) j 0 < get_or others j 0 → at ≤ get_or (grown at spare columns) j 0
grown-low at spare [] [] zero within less = absurd (omega (arith, less))
grown-low at spare [] [] (suc j) within less = absurd (omega (arith, less))
grown-low at spare [] (other ∷ others) j within less = absurd within
grown-low at spare (column ∷ columns) [] j within less = absurd within
grown-low at spare (column ∷ columns) (other ∷ others) zero within less =
    let first = grown-first at spare column columns in
    let is = get-first at spare column columns first in
    omega (arith, is, near-low at column first.width other first.near within.1 (omega (arith, is, less)))
grown-low at spare (column ∷ columns) (other ∷ others) (suc j) within less =
    let first = grown-first at spare column columns in
    let is = get-further at spare j column columns first in
    omega (arith, is, grown-low at first.others columns others j within.2 (omega (arith, is, less)))

-- no width between the bounds is less than the least
least-least : (columns : List Bounds) (others : List ℕ) (i : ℕ) → Within columns others → get_or others i 0 < get_or (map (λ (column : Bounds). column.least) columns) i 0 → ⊥
least-least [] [] zero within less = absurd (omega (arith, less))
least-least [] [] (suc i) within less = absurd (omega (arith, less))
least-least [] (other ∷ others) i within less = absurd within
least-least (column ∷ columns) [] i within less = absurd within
least-least (column ∷ columns) (other ∷ others) zero within less = absurd (omega (arith, within.0, less))
least-least (column ∷ columns) (other ∷ others) (suc i) within less = least-least columns others i within.2 less

-- no column has less elsewhere but one that is at most one wider than a column that has more there
shared-near : (budget : ℕ) (columns : List Bounds) (others : List ℕ) (i j : ℕ) → Within columns others
    → get_or (shared budget columns) j 0 < get_or others j 0 → get_or others i 0 < get_or (shared budget columns) i 0
    → get_or (shared budget columns) i 0 ≤ get_or (shared budget columns) j 0 + 1
shared-near budget columns others i j within more less = go (nat_le budget (total Least columns)) refl more less
  where
    widths : Bool → List ℕ
    widths v = cond v (map (λ (column : Bounds). column.least) columns) (grown (level budget columns) (budget - total (At (level budget columns)) columns) columns)

    go : (v : Bool) → nat_le budget (total Least columns) ≡ v → get_or (widths v) j 0 < get_or others j 0 → get_or others i 0 < get_or (widths v) i 0 → get_or (widths v) i 0 ≤ get_or (widths v) j 0 + 1
    go true e more less = absurd (least-least columns others i within less)
    go false e more less =
        let spare : ℕ = budget - total (At (level budget columns)) columns in
        omega (arith, grown-high (level budget columns) spare columns others i within less, grown-low (level budget columns) spare columns others j within more)

-- ---- lengths

length-grown : (at spare : ℕ) (columns : List Bounds) → length (grown at spare columns) ≡ length columns
unfolding grown
length-grown at spare [] = refl
length-grown at spare (column ∷ columns) =
    let first = grown-first at spare column columns in
    omega (arith, ap length first.is, length-grown at first.others columns)

pub length-fair : (budget : ℕ) (columns : List Bounds) → length (fair budget columns) ≡ length columns
length-fair budget columns = go (nat_le (total Most columns) budget) (nat_le budget (total Least columns))
  where
    go : (v w : Bool) → length (cond v (map (λ (column : Bounds). column.most) columns) (cond w (map (λ (column : Bounds). column.least) columns) (grown (level budget columns) (budget - total (At (level budget columns)) columns) columns))) ≡ length columns
    go true w = length-map columns (λ (column : Bounds). column.most)
    go false true = length-map columns (λ (column : Bounds). column.least)
    go false false = length-grown (level budget columns) (budget - total (At (level budget columns)) columns) columns

length-within : (columns : List Bounds) (others : List ℕ) → Within columns others → length columns ≡ length others
length-within [] [] within = refl
length-within [] (other ∷ others) within = absurd within
length-within (column ∷ columns) [] within = absurd within
length-within (column ∷ columns) (other ∷ others) within = ap (λ n. suc n) (length-within columns others within.2)

-- ---- the law

some-less-if : (ws os : List ℕ) (j : ℕ) → length ws ≡ length os → sum os ≤ sum ws → get_or ws j 0 < get_or os j 0 → (i : ℕ) × (get_or os i 0 < get_or ws i 0)
some-less-if [] [] zero e h more = absurd (omega (arith, more))
some-less-if [] [] (suc j) e h more = absurd (omega (arith, more))
some-less-if [] (o ∷ os) j e h more = absurd (omega (arith, e))
some-less-if (w ∷ ws) [] j e h more = absurd (omega (arith, e))
some-less-if (w ∷ ws) (o ∷ os) zero e h more =
    let found = some-less ws os (omega (arith, e)) (omega (arith, h, more, sum-cons w ws, sum-cons o os)) in (suc found.0, found.1)
some-less-if (w ∷ ws) (o ∷ os) (suc j) e h more = go (nat_lt o w) refl (λ less. some-less-if ws os j (omega (arith, e)) less more)
  where
    go : (v : Bool) → nat_lt o w ≡ v → (sum os ≤ sum ws → (i : ℕ) × (get_or os i 0 < get_or ws i 0)) → (i : ℕ) × (get_or (o ∷ os) i 0 < get_or (w ∷ ws) i 0)
    go true t k = (0, less-yes o w t)
    go false t k = let found = k (omega (arith, h, sum-cons w ws, sum-cons o os, less-no o w t)) in (suc found.0, found.1)

pub taken : (budget : ℕ) (columns : List Bounds) (others : List ℕ) (j : ℕ) → total Least columns ≤ budget → budget < total Most columns
    → Within columns others → sum others ≤ budget → get_or (fair budget columns) j 0 < get_or others j 0 → Taken (fair budget columns) others j
taken budget columns others j fits more within small gives =
    let found = some-less-if (fair budget columns) others j (length-fair budget columns ∙ length-within columns others within) (omega (arith, small, whole_budget budget columns fits more)) gives in
    let is = fair-shared budget columns more in
    record {
      column = found.0;
      less = found.1;
      near = λ i less. subst (λ (ws : List ℕ). get_or ws i 0 ≤ get_or ws j 0 + 1) (sym is)
          (shared-near budget columns others i j within (subst (λ (ws : List ℕ). get_or ws j 0 < get_or others j 0) is gives) (subst (λ (ws : List ℕ). get_or others i 0 < get_or ws i 0) is less));
    }

-- ---- the bounds

within-most : (columns : List Bounds) → Ordered columns → Within columns (map (λ (column : Bounds). column.most) columns)
within-most [] ordered = tt
within-most (column ∷ columns) ordered = (ordered.0, omega arith, within-most columns ordered.1)

within-least : (columns : List Bounds) → Ordered columns → Within columns (map (λ (column : Bounds). column.least) columns)
within-least [] ordered = tt
within-least (column ∷ columns) ordered = (omega arith, ordered.0, within-least columns ordered.1)

within-grown : (at spare : ℕ) (columns : List Bounds) → Ordered columns → Within columns (grown at spare columns)
unfolding grown
within-grown at spare [] ordered = tt
within-grown at spare (column ∷ columns) ordered =
    let first = grown-first at spare column columns in
    let low : column.least ≤ first.width = omega (arith, first.near.low) in
    let high : first.width ≤ column.most = omega (arith, first.near.most, ordered.0) in
    subst (λ (ws : List ℕ). Within (column ∷ columns) ws) (sym first.is) (low, high, within-grown at first.others columns ordered.1)

pub within-fair : (budget : ℕ) (columns : List Bounds) → Ordered columns → Within columns (fair budget columns)
within-fair budget columns ordered = go (nat_le (total Most columns) budget) (nat_le budget (total Least columns))
  where
    go : (v w : Bool) → Within columns (cond v (map (λ (column : Bounds). column.most) columns) (cond w (map (λ (column : Bounds). column.least) columns) (grown (level budget columns) (budget - total (At (level budget columns)) columns) columns)))
    go true w = within-most columns ordered
    go false true = within-least columns ordered
    go false false = within-grown (level budget columns) (budget - total (At (level budget columns)) columns) columns ordered
