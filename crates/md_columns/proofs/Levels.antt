-- The greatest level whose widths fit.
use Rattle.std.proofs.Common.{◌≡◌, ℕ, zero, suc, ◌+◌, ◌-◌, ◌<◌, ◌≤◌, Bool, true, false, cond, nat_le, nat_lt, List, [], ◌∷◌, refl, sym, subst, arith}
use Rattle.std.proofs.lemmas.Bool.Decides.{nat_tests}
use Rattle.std.proofs.lemmas.List.Sums.{sum_by-cons}
use Rattle.md_columns.specs.declared.bounds.Bounds.{Bounds}
use Rattle.md_columns.specs.declared.bounds.Choice.{Choice}
use Rattle.md_columns.specs.declared.bounds.Choice.TheVariants.{Least, Most, At}
use Rattle.md_columns.specs.Fair.{width_at, width_of, total, level_up_to, level, widest}

pub total-cons : (choice : Choice) (column : Bounds) (columns : List Bounds) → total choice (column ∷ columns) ≡ width_of choice column + total choice columns
total-cons choice column columns = sum_by-cons (λ (c : Bounds). width_of choice c) column columns

pub width_at-mono : (a b : ℕ) (column : Bounds) → a ≤ b → width_at a column ≤ width_at b column
width_at-mono a b column h = omega (arith, h)

pub total-mono : (a b : ℕ) (columns : List Bounds) → a ≤ b → total (At a) columns ≤ total (At b) columns
total-mono a b [] h = omega arith
total-mono a b (column ∷ columns) h =
    omega (arith, total-cons (At a) column columns, total-cons (At b) column columns, width_at-mono a b column h, total-mono a b columns h)

pub total-first : (columns : List Bounds) → total (At 0) columns ≡ total Least columns
total-first [] = refl
total-first (column ∷ columns) =
    let one : width_at 0 column ≡ column.least = omega arith in
    omega (arith, total-cons (At 0) column columns, total-cons Least column columns, one, total-first columns)

total-past : (n : ℕ) (columns : List Bounds) → widest columns ≤ n → total Most columns ≤ total (At n) columns
unfolding widest
total-past n [] h = omega arith
total-past n (column ∷ columns) h =
    let one : column.most ≤ width_at n column = omega (arith, h) in
    let others : widest columns ≤ n = omega (arith, h) in
    omega (arith, total-cons Most column columns, total-cons (At n) column columns, one, total-past n columns others)

-- no level past the widest column fits what does not fit at all
pub total-widest : (columns : List Bounds) → total Most columns ≤ total (At (widest columns)) columns
total-widest columns = total-past (widest columns) columns (omega arith)

pub fits-no : (a b : ℕ) → nat_le a b ≡ false → b < a
fits-no a b h = grind (arith, nat_tests)

pub fits-yes : (a b : ℕ) → nat_le a b ≡ true → a ≤ b
fits-yes a b h = grind (arith, nat_tests)

pub less-yes : (a b : ℕ) → nat_lt a b ≡ true → a < b
less-yes a b e = grind (arith, nat_tests)

pub less-no : (a b : ℕ) → nat_lt a b ≡ false → b ≤ a
less-no a b e = grind (arith, nat_tests)

-- the level that fits, where the next does not
pub level_up_to-is : (n low budget : ℕ) (columns : List Bounds) → low ≤ n → total (At low) columns ≤ budget → budget < total (At (low + 1)) columns → level_up_to n budget columns ≡ low
unfolding level_up_to
level_up_to-is zero low budget columns le fits over = omega (arith, le)
level_up_to-is (suc n) low budget columns le fits over =
    go (nat_le (total (At (suc n)) columns) budget) refl (λ below. level_up_to-is n low budget columns below fits over)
  where
    above : (w : Bool) → nat_le (low + 1) (suc n) ≡ w → total (At (suc n)) columns ≤ budget → suc n ≡ low
    above true o h = absurd (omega (arith, over, h, total-mono (low + 1) (suc n) columns (fits-yes (low + 1) (suc n) o)))
    above false o h = omega (arith, le, fits-no (low + 1) (suc n) o)

    below : (w : Bool) → nat_le (suc n) low ≡ w → budget < total (At (suc n)) columns → low ≤ n
    below true o h = absurd (omega (arith, fits, h, total-mono (suc n) low columns (fits-yes (suc n) low o)))
    below false o h = omega (arith, fits-no (suc n) low o)

    go : (v : Bool) → nat_le (total (At (suc n)) columns) budget ≡ v → (low ≤ n → level_up_to n budget columns ≡ low) → cond v (suc n) (level_up_to n budget columns) ≡ low
    go true e k = above (nat_le (low + 1) (suc n)) refl (fits-yes (total (At (suc n)) columns) budget e)
    go false e k = k (below (nat_le (suc n) low) refl (fits-no (total (At (suc n)) columns) budget e))

-- what the loop of halving keeps at its begin and tells at its end
pub level-begins : (budget high : ℕ) (columns : List Bounds) → high ≡ widest columns → total Least columns ≤ budget → budget < total Most columns
    → (0 < high) × (high ≤ widest columns) × (total (At 0) columns ≤ budget) × (budget < total (At high) columns)
level-begins budget high columns e fits more =
    let past : budget < total (At (widest columns)) columns = omega (arith, more, total-widest columns) in
    let over : budget < total (At high) columns = subst (λ h. budget < total (At h) columns) (sym e) past in
    let first : total (At 0) columns ≤ budget = omega (arith, total-first columns, fits) in
    (positive high over first, omega (arith, e), first, over)
  where
    positive : (h : ℕ) → budget < total (At h) columns → total (At 0) columns ≤ budget → 0 < h
    positive zero over first = absurd (omega (arith, over, first))
    positive (suc h) over first = omega arith

pub level-ends : (low high budget : ℕ) (columns : List Bounds) → (low < high) × (high ≤ widest columns) × (total (At low) columns ≤ budget) × (budget < total (At high) columns) → high - low ≤ 1 → low ≡ level budget columns
level-ends low high budget columns keeps end =
    let next : high ≡ low + 1 = omega (arith, keeps.0, end) in
    sym (level_up_to-is (widest columns) low budget columns (omega (arith, keeps.0, keeps.1)) keeps.2 (subst (λ h. budget < total (At h) columns) next keeps.3))
