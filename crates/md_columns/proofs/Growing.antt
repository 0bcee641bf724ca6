-- Fair widths grow at the leftmost of the narrowest columns that are below their most.
use Rattle.std.proofs.Common.{◌≡◌, ℕ, zero, suc, ◌+◌, ◌-◌, ◌<◌, ◌≤◌, Bool, true, false, cond, nat_le, nat_lt, ◌&&◌, ◌==◌, Option, None, Some, List, [], ◌∷◌, map, sum, sum_by, refl, sym, ap, subst, ◌∙◌, arith}
use Rattle.std.proofs.lemmas.Bool.Decides.{nat_tests}
use Rattle.std.proofs.lemmas.List.Sums.{sum_by-cons}
use Rattle.md_columns.specs.declared.bounds.Bounds.{Bounds}
use Rattle.md_columns.specs.declared.bounds.Choice.TheVariants.{Least, Most, At}
use Rattle.md_columns.specs.Fair.{Ordered, width_at, total, level_up_to, level, widest, grows, grown, fair}
use Rattle.md_columns.specs.Growth.{lacks, lesser, narrowest, one_more_at, one_more, widened}
use Rattle.md_columns.proofs.Levels.{fits-yes, fits-no, less-yes, less-no}
use Rattle.md_columns.proofs.Fairness.{sum-cons, sum-least, sum-most, sum-grown, growing_one, total-growing, level-fits, level-next, grows-parts, First, grown-first, fair-all, fair-shared}

-- ---- one more at the level

-- a column that has the level and less than its most is one that grows
at-level : (at : ℕ) (column : Bounds) → (lacks column (width_at at column) && width_at at column == at) ≡ grows at column
at-level at column = go (nat_le column.least at) (nat_lt at column.most) refl refl
  where
    go : (v w : Bool) → nat_le column.least at ≡ v → nat_lt at column.most ≡ w → (lacks column (width_at at column) && width_at at column == at) ≡ (v && w)
    go true true e f = grind (arith, nat_tests)
    go true false e f = grind (arith, nat_tests)
    go false w e f = grind (arith, nat_tests)

-- a column that has grown has not the level
past-level : (at : ℕ) (column : Bounds) → grows at column ≡ true → (lacks column (width_at at column + 1) && width_at at column + 1 == at) ≡ false
past-level at column e = let parts = grows-parts at column e in grind (arith, nat_tests, parts.0, parts.1)

-- a width with the others, where the first column at the level has one more
abbrev step : Bool → ℕ → List ℕ → List ℕ → List ℕ
step v width others more = cond v ((width + 1) ∷ others) (width ∷ more)

one_more_at-grown : (at spare : ℕ) (columns : List Bounds) → one_more_at at columns (grown at spare columns) ≡ grown at (suc spare) columns
unfolding one_more_at grown
one_more_at-grown at spare [] = refl
one_more_at-grown at zero (column ∷ columns) =
    ap (λ v. step v (width_at at column) (grown at zero columns) (one_more_at at columns (grown at zero columns))) (at-level at column)
    ∙ ap (λ more. step (grows at column) (width_at at column) (grown at zero columns) more) (one_more_at-grown at zero columns)
one_more_at-grown at (suc spare) (column ∷ columns) = go (grows at column) refl (one_more_at-grown at spare columns) (one_more_at-grown at (suc spare) columns)
  where
    go : (v : Bool) → grows at column ≡ v → one_more_at at columns (grown at spare columns) ≡ grown at (suc spare) columns
        → one_more_at at columns (grown at (suc spare) columns) ≡ grown at (suc (suc spare)) columns
        → one_more_at at (column ∷ columns) (step v (width_at at column) (grown at spare columns) (grown at (suc spare) columns))
        ≡ step v (width_at at column) (grown at (suc spare) columns) (grown at (suc (suc spare)) columns)
    go true e less same =
        ap (λ v. step v (width_at at column + 1) (grown at spare columns) (one_more_at at columns (grown at spare columns))) (past-level at column e)
        ∙ ap (λ more. (width_at at column + 1) ∷ more) less
    go false e less same =
        ap (λ v. step v (width_at at column) (grown at (suc spare) columns) (one_more_at at columns (grown at (suc spare) columns))) (at-level at column ∙ e)
        ∙ ap (λ more. width_at at column ∷ more) same

-- ---- the narrowest has the level

abbrev NotBelow : ℕ → Option ℕ → Type 0
NotBelow at None = Unit {0}
NotBelow at (Some width) = at ≤ width

abbrev lesser_of : Bool → ℕ → Option ℕ → Option ℕ
lesser_of v width others = cond v (Some (lesser width others)) others

first-low : (at spare : ℕ) (column : Bounds) (columns : List Bounds) → (first : First at spare column columns) → first.width < column.most → at ≤ first.width
first-low at spare column columns first less = omega (arith, first.near.low, less)

narrowest-first : (at spare : ℕ) (column : Bounds) (columns : List Bounds) → (first : First at spare column columns)
    → narrowest (column ∷ columns) (grown at spare (column ∷ columns)) ≡ lesser_of (lacks column first.width) first.width (narrowest columns (grown at first.others columns))
unfolding narrowest
narrowest-first at spare column columns first = ap (λ ws. narrowest (column ∷ columns) ws) first.is

narrowest-low : (at spare : ℕ) (columns : List Bounds) → NotBelow at (narrowest columns (grown at spare columns))
unfolding narrowest
narrowest-low at spare [] = tt
narrowest-low at spare (column ∷ columns) =
    let first = grown-first at spare column columns in
    subst (λ n. NotBelow at n) (sym (narrowest-first at spare column columns first))
    (go (lacks column first.width) first refl (narrowest columns (grown at first.others columns)) (narrowest-low at first.others columns))
  where
    both : (w : ℕ) (others : Option ℕ) → at ≤ w → NotBelow at others → at ≤ lesser w others
    both w None h k = h
    both w (Some other) h k = omega (arith, h, k)

    go : (v : Bool) → (first : First at spare column columns) → lacks column first.width ≡ v → (others : Option ℕ) → NotBelow at others → NotBelow at (lesser_of v first.width others)
    go true first e others k = both first.width others (first-low at spare column columns first (less-yes first.width column.most e)) k
    go false first e others k = k

-- a column before one that has the level does not change the narrowest
lesser-level : (at width : ℕ) (column : Bounds) (others : Option ℕ) → others ≡ Some at → (width < column.most → at ≤ width) → lesser_of (lacks column width) width others ≡ Some at
lesser-level at width column others is low = ap (λ o. lesser_of (lacks column width) width o) is ∙ go (lacks column width) refl
  where
    go : (v : Bool) → lacks column width ≡ v → lesser_of v width (Some at) ≡ Some at
    go true e = ap (λ n. Some n) (omega (arith, low (less-yes width column.most e)))
    go false e = refl

-- nor does one behind the first that has the level
level-lesser : (at : ℕ) (column : Bounds) (others : Option ℕ) → grows at column ≡ true → NotBelow at others → lesser_of (lacks column (width_at at column)) (width_at at column) others ≡ Some at
level-lesser at column others e low =
    let parts = grows-parts at column e in
    let lacking : lacks column (width_at at column) ≡ true = grind (arith, nat_tests, parts.0, parts.1) in
    ap (λ v. lesser_of v (width_at at column) others) lacking ∙ least others low
  where
    least : (others : Option ℕ) → NotBelow at others → Some (lesser (width_at at column) others) ≡ Some at
    least None low = let parts = grows-parts at column e in ap (λ n. Some n) (omega (arith, parts.0, parts.1))
    least (Some other) low = let parts = grows-parts at column e in ap (λ n. Some n) (omega (arith, parts.0, parts.1, low))

growing : ℕ → List Bounds → ℕ
growing at columns = sum_by (λ (column : Bounds). growing_one at column) columns

growing-cons : (at : ℕ) (column : Bounds) (columns : List Bounds) → growing at (column ∷ columns) ≡ growing_one at column + growing at columns
unfolding growing
growing-cons at column columns = sum_by-cons (λ (c : Bounds). growing_one at c) column columns

growing-yes : (at : ℕ) (column : Bounds) (columns : List Bounds) → grows at column ≡ true → growing at (column ∷ columns) ≡ growing at columns + 1
growing-yes at column columns e = let one : growing_one at column ≡ 1 = rw e refl in omega (arith, one, growing-cons at column columns)

growing-no : (at : ℕ) (column : Bounds) (columns : List Bounds) → grows at column ≡ false → growing at (column ∷ columns) ≡ growing at columns
growing-no at column columns e = let one : growing_one at column ≡ 0 = rw e refl in omega (arith, one, growing-cons at column columns)

-- while some that grow have no more, the narrowest has the level
narrowest-grown : (at spare : ℕ) (columns : List Bounds) → spare < growing at columns → narrowest columns (grown at spare columns) ≡ Some at
unfolding narrowest grown growing
narrowest-grown at spare [] h = absurd (omega (arith, h))
narrowest-grown at zero (column ∷ columns) h = go (grows at column) refl (λ more. narrowest-grown at zero columns more)
  where
    go : (v : Bool) → grows at column ≡ v → (0 < growing at columns → narrowest columns (grown at zero columns) ≡ Some at)
        → lesser_of (lacks column (width_at at column)) (width_at at column) (narrowest columns (grown at zero columns)) ≡ Some at
    go true e k = level-lesser at column (narrowest columns (grown at zero columns)) e (narrowest-low at zero columns)
    go false e k = lesser-level at (width_at at column) column _ (k (omega (arith, h, growing-no at column columns e))) (λ less. omega (arith, less))
narrowest-grown at (suc spare) (column ∷ columns) h = go (grows at column) refl (λ more. narrowest-grown at spare columns more) (λ more. narrowest-grown at (suc spare) columns more)
  where
    go : (v : Bool) → grows at column ≡ v → (spare < growing at columns → narrowest columns (grown at spare columns) ≡ Some at)
        → (suc spare < growing at columns → narrowest columns (grown at (suc spare) columns) ≡ Some at)
        → narrowest (column ∷ columns) (step v (width_at at column) (grown at spare columns) (grown at (suc spare) columns)) ≡ Some at
    go true e k same =
        lesser-level at (width_at at column + 1) column _ (k (omega (arith, h, growing-yes at column columns e))) (λ less. omega (arith, less))
    go false e k same =
        lesser-level at (width_at at column) column _ (same (omega (arith, h, growing-no at column columns e))) (λ less. omega (arith, less))

-- one more of what is left goes to the leftmost of the narrowest columns that are below their most
widened-grown : (at spare : ℕ) (columns : List Bounds) → spare < growing at columns → widened columns (grown at spare columns) ≡ grown at (suc spare) columns
widened-grown at spare columns h =
    ap (λ least. one_more least columns (grown at spare columns)) (narrowest-grown at spare columns h) ∙ one_more_at-grown at spare columns

-- ---- widths that are nowhere greater, and the same together, are the same

abbrev Under : List ℕ → List ℕ → Type 0
Under [] [] = Unit {0}
Under [] (o ∷ os) = ⊥
Under (w ∷ ws) [] = ⊥
Under (w ∷ ws) (o ∷ os) = (w ≤ o) × Under ws os

under-sum : (ws os : List ℕ) → Under ws os → sum ws ≤ sum os
under-sum [] [] under = omega arith
under-sum [] (o ∷ os) under = absurd under
under-sum (w ∷ ws) [] under = absurd under
under-sum (w ∷ ws) (o ∷ os) under = omega (arith, under.0, under-sum ws os under.1, sum-cons w ws, sum-cons o os)

under-same : (ws os : List ℕ) → Under ws os → sum ws ≡ sum os → ws ≡ os
under-same [] [] under e = refl
under-same [] (o ∷ os) under e = absurd under
under-same (w ∷ ws) [] under e = absurd under
under-same (w ∷ ws) (o ∷ os) under e =
    let others : sum ws ≤ sum os = under-sum ws os under.1 in
    let first : w ≡ o = omega (arith, under.0, others, e, sum-cons w ws, sum-cons o os) in
    let further : ws ≡ os = under-same ws os under.1 (omega (arith, first, e, sum-cons w ws, sum-cons o os)) in
    ap (λ n. n ∷ ws) first ∙ ap (λ more. o ∷ more) further

under-first : (at spare : ℕ) (column : Bounds) (columns : List Bounds) (width : ℕ) (others : List ℕ) → (first : First at spare column columns) → first.width ≤ width → Under (grown at first.others columns) others → Under (grown at spare (column ∷ columns)) (width ∷ others)
under-first at spare column columns width others first low under = subst (λ ws. Under ws (width ∷ others)) (sym first.is) (low, under)

under-most : (at spare : ℕ) (columns : List Bounds) → Ordered columns → Under (grown at spare columns) (map (λ (column : Bounds). column.most) columns)
unfolding grown
under-most at spare [] ordered = tt
under-most at spare (column ∷ columns) ordered =
    let first = grown-first at spare column columns in
    under-first at spare column columns column.most _ first (omega (arith, first.near.most, ordered.0)) (under-most at first.others columns ordered.1)

under-least : (at spare : ℕ) (columns : List Bounds) → Under (map (λ (column : Bounds). column.least) columns) (grown at spare columns)
unfolding grown
under-least at spare [] = tt
under-least at spare (column ∷ columns) =
    let first = grown-first at spare column columns in
    subst (λ ws. Under (column.least ∷ map (λ (c : Bounds). c.least) columns) ws) (sym first.is) (omega (arith, first.near.low), under-least at first.others columns)

under-level : (at spare next more : ℕ) (columns : List Bounds) → at < next → Under (grown at spare columns) (grown next more columns)
unfolding grown
under-level at spare next more [] h = tt
under-level at spare next more (column ∷ columns) h =
    let first = grown-first at spare column columns in
    let other = grown-first next more column columns in
    let low : first.width ≤ other.width = omega (arith, first.near.high, first.near.most, other.near.low, h) in
    subst (λ ws. Under (grown at spare (column ∷ columns)) ws) (sym other.is)
    (under-first at spare column columns other.width _ first low (under-level at first.others next other.others columns h))

-- ---- the levels of two budgets

level_up_to-high : (n budget : ℕ) (columns : List Bounds) → level_up_to n budget columns ≤ n
unfolding level_up_to
level_up_to-high zero budget columns = omega arith
level_up_to-high (suc n) budget columns = go (nat_le (total (At (suc n)) columns) budget) (level_up_to-high n budget columns)
  where
    go : (v : Bool) → level_up_to n budget columns ≤ n → cond v (suc n) (level_up_to n budget columns) ≤ suc n
    go true k = omega arith
    go false k = omega (arith, k)

level_up_to-greatest : (n at budget : ℕ) (columns : List Bounds) → at ≤ n → total (At at) columns ≤ budget → at ≤ level_up_to n budget columns
unfolding level_up_to
level_up_to-greatest zero at budget columns h fits = h
level_up_to-greatest (suc n) at budget columns h fits = go (nat_le (total (At (suc n)) columns) budget) refl (λ low. level_up_to-greatest n at budget columns low fits)
  where
    last : (v : Bool) → nat_le at n ≡ v → budget < total (At (suc n)) columns → at ≤ n
    last true e over = fits-yes at n e
    last false e over =
        let is : at ≡ suc n = omega (arith, h, fits-no at n e) in
        absurd (omega (arith, over, subst (λ m. total (At m) columns ≤ budget) is fits))

    go : (v : Bool) → nat_le (total (At (suc n)) columns) budget ≡ v → (at ≤ n → at ≤ level_up_to n budget columns) → at ≤ cond v (suc n) (level_up_to n budget columns)
    go true e k = h
    go false e k = k (last (nat_le at n) refl (fits-no (total (At (suc n)) columns) budget e))

level-next-budget : (budget : ℕ) (columns : List Bounds) → total Least columns ≤ budget → level budget columns ≤ level (budget + 1) columns
level-next-budget budget columns fits =
    level_up_to-greatest (widest columns) (level budget columns) (budget + 1) columns (level_up_to-high (widest columns) budget columns)
    (omega (arith, level-fits budget columns fits))

-- ---- the law

-- what is left at the greatest level that fits
abbrev spare_of : ℕ → List Bounds → ℕ
spare_of budget columns = budget - total (At (level budget columns)) columns

spare-growing : (budget : ℕ) (columns : List Bounds) → total Least columns ≤ budget → budget < total Most columns → spare_of budget columns < growing (level budget columns) columns
unfolding growing
spare-growing budget columns fits more =
    omega (arith, total-growing (level budget columns) columns, level-fits budget columns fits, level-next budget columns more)

sum-spare : (budget spare : ℕ) (columns : List Bounds) → total Least columns ≤ budget → budget < total Most columns → spare ≤ spare_of budget columns + 1
    → sum (grown (level budget columns) spare columns) ≡ total (At (level budget columns)) columns + spare
unfolding growing
sum-spare budget spare columns fits more few =
    omega (arith, sum-grown (level budget columns) spare columns, spare-growing budget columns fits more, few)

-- the widths where the least fits, but not all that is needed: also at the least they are those at a level
fair-level : (budget : ℕ) (columns : List Bounds) → total Least columns ≤ budget → budget < total Most columns → fair budget columns ≡ grown (level budget columns) (spare_of budget columns) columns
fair-level budget columns fits more = fair-shared budget columns more ∙ go (nat_le budget (total Least columns)) refl
  where
    go : (v : Bool) → nat_le budget (total Least columns) ≡ v
        → cond v (map (λ (column : Bounds). column.least) columns) (grown (level budget columns) (spare_of budget columns) columns) ≡ grown (level budget columns) (spare_of budget columns) columns
    go true e =
        under-same _ _ (under-least (level budget columns) (spare_of budget columns) columns)
        (omega (arith, sum-least columns, fits, fits-yes budget (total Least columns) e, level-fits budget columns fits, sum-spare budget (spare_of budget columns) columns fits more (omega arith)))
    go false e = refl

-- the widths where one more is left are those of the next budget
fair-next : (budget : ℕ) (columns : List Bounds) → Ordered columns → total Least columns ≤ budget → budget < total Most columns
    → grown (level budget columns) (suc (spare_of budget columns)) columns ≡ fair (budget + 1) columns
fair-next budget columns ordered fits more = go (nat_le (total Most columns) (budget + 1)) refl
  where
    together : sum (grown (level budget columns) (suc (spare_of budget columns)) columns) ≡ budget + 1
    together = omega (arith, level-fits budget columns fits, sum-spare budget (suc (spare_of budget columns)) columns fits more (omega arith))

    all : nat_le (total Most columns) (budget + 1) ≡ true → grown (level budget columns) (suc (spare_of budget columns)) columns ≡ map (λ (column : Bounds). column.most) columns
    all e =
        under-same _ _ (under-most (level budget columns) (suc (spare_of budget columns)) columns ordered)
        (omega (arith, together, sum-most columns, more, fits-yes (total Most columns) (budget + 1) e))

    rest : budget + 1 < total Most columns → grown (level budget columns) (suc (spare_of budget columns)) columns ≡ grown (level (budget + 1) columns) (spare_of (budget + 1) columns) columns
    rest less = by_level (nat_lt (level budget columns) (level (budget + 1) columns)) refl
      where
        low : total Least columns ≤ budget + 1
        low = omega (arith, fits)

        same : level budget columns ≡ level (budget + 1) columns → grown (level budget columns) (suc (spare_of budget columns)) columns ≡ grown (level (budget + 1) columns) (spare_of (budget + 1) columns) columns
        same e =
            let left : suc (spare_of budget columns) ≡ budget + 1 - total (At (level budget columns)) columns = omega (arith, level-fits budget columns fits) in
            ap (λ spare. grown (level budget columns) spare columns) left ∙ ap (λ at. grown at (budget + 1 - total (At at) columns) columns) e

        by_level : (v : Bool) → nat_lt (level budget columns) (level (budget + 1) columns) ≡ v → grown (level budget columns) (suc (spare_of budget columns)) columns ≡ grown (level (budget + 1) columns) (spare_of (budget + 1) columns) columns
        by_level true e =
            under-same _ _ (under-level (level budget columns) (suc (spare_of budget columns)) (level (budget + 1) columns) (spare_of (budget + 1) columns) columns (less-yes (level budget columns) (level (budget + 1) columns) e))
            (omega (arith, together, level-fits (budget + 1) columns low, sum-spare (budget + 1) (spare_of (budget + 1) columns) columns low less (omega arith)))
        by_level false e =
            same (omega (arith, level-next-budget budget columns fits, less-no (level budget columns) (level (budget + 1) columns) e))

    go : (v : Bool) → nat_le (total Most columns) (budget + 1) ≡ v → grown (level budget columns) (suc (spare_of budget columns)) columns ≡ fair (budget + 1) columns
    go true e = all e ∙ sym (fair-all (budget + 1) columns (fits-yes (total Most columns) (budget + 1) e))
    go false e =
        let less = fits-no (total Most columns) (budget + 1) e in
        rest less ∙ sym (fair-level (budget + 1) columns (omega (arith, fits)) less)

pub grows-narrowest : (budget : ℕ) (columns : List Bounds) → Ordered columns → total Least columns ≤ budget → budget < total Most columns → fair (budget + 1) columns ≡ widened columns (fair budget columns)
grows-narrowest budget columns ordered fits more =
    sym (fair-next budget columns ordered fits more)
    ∙ sym (widened-grown (level budget columns) (spare_of budget columns) columns (spare-growing budget columns fits more))
    ∙ ap (λ widths. widened columns widths) (sym (fair-level budget columns fits more))
