-- How many rows were cut so far.
use Rattle.std.proofs.Common.{◌≡◌, ℕ, ◌+◌, ◌-◌, ◌<◌, ◌≤◌, Bool, true, false, nat_lt, ◌&&◌, List, [], ◌∷◌, length, drop, Option, Some, None, cond, refl, sym, ap, subst, ◌∙◌, arith, length-drop}
use Rattle.std.specs.Prelude.{min, not, is_some, MatchOption, Result, Ok, Err, OnErr, IsErrOf}
use Rattle.std.proofs.lemmas.Bool.Decides.{nat_tests}
use Rattle.term_core.specs.Graph.{Grapheme}
use Rattle.term_core.specs.Rows.{row_graphs}
use Rattle.term_text.specs.declared.cutter.Row.{Row}
use Rattle.term_widgets.specs.Cuts.{IsNotedUpTo}

-- none before the first
min-zero : (n : ℕ) → 0 ≡ min 0 n
min-zero n = omega arith

-- one more where a row is left
min-more : {A : Type 0} (i : ℕ) (all rest : List A) (x : A) → x ∷ rest ≡ drop i all → min i (length all) + 1 ≡ min (i + 1) (length all)
min-more i all rest x e = omega (arith, ap length e, length-drop i all)

-- no more where none is left
min-done : {A : Type 0} (i n : ℕ) (all : List A) → i ≤ n → [] ≡ drop i all → min i (length all) + 0 ≡ min n (length all)
min-done i n all le e = omega (arith, ap length e, length-drop i all)

-- the same of the rows from the row r on, beside those above
one : {A : Type 0} (above r i : ℕ) (all rest : List A) (x : A) → x ∷ rest ≡ drop (r + i) all
    → (above + min i (length all - r)) + 1 ≡ above + min (i + 1) (length all - r)
one above r i all rest x e = omega (arith, ap length e, length-drop (r + i) all)

last : {A : Type 0} (above r i : ℕ) (all : List A) → [] ≡ drop (r + i) all
    → (above + min i (length all - r)) + 0 ≡ above + min (i + 1) (length all - r)
last above r i all e = omega (arith, ap length e, length-drop (r + i) all)

module _ {S : Type 0} (noted : ℕ → S → S → Type 0) (sum : (m n : ℕ) (a b c : S) → noted m a b → noted n b c → noted (m + n) a c) (a b c : S) where
  -- one row more is cut
  pub noted-more : {A : Type 0} (all rest : List A) (x : A) (i : ℕ) → x ∷ rest ≡ drop i all
      → noted (min i (length all)) a b → noted 1 b c → noted (min (i + 1) (length all)) a c
  noted-more all rest x i e before more = subst (λ n. noted n a c) (min-more i all rest x e) (sum (min i (length all)) 1 a b c before more)

  -- no row is left
  pub noted-all : {A : Type 0} (all : List A) (i n : ℕ) → i ≤ n → [] ≡ drop i all
      → noted (min i (length all)) a b → noted 0 b c → noted (min n (length all)) a c
  noted-all all i n le e before none = subst (λ n. noted n a c) (min-done i n all le e) (sum (min i (length all)) 0 a b c before none)

  -- a call for the next row cuts one, if there is one, beside those that were cut above
  pub noted-row : (above r i : ℕ) (rows left after : List (List Grapheme)) (o : Option Row)
      → MatchOption o ((left ≡ []) × (after ≡ [])) (λ x. left ≡ row_graphs x ∷ after) → left ≡ drop (r + i) rows
      → noted (above + min i (length rows - r)) a b → noted (cond (is_some o) 1 0) b c → noted (above + min (i + 1) (length rows - r)) a c
  noted-row above r i rows left after None next rest before more =
      subst (λ n. noted n a c) (last above r i rows (sym next.0 ∙ rest)) (sum (above + min i (length rows - r)) 0 a b c before more)
  noted-row above r i rows left after (Some x) next rest before more =
      subst (λ n. noted n a c) (one above r i rows after (row_graphs x) (sym next ∙ rest)) (sum (above + min i (length rows - r)) 1 a b c before more)

-- none is cut before the first
pub noted-none : {S : Type 0} (noted : ℕ → S → S → Type 0) (a : S) (n : ℕ) → noted 0 a a → noted (min 0 n) a a
noted-none noted a n none = subst (λ k. noted k a a) (min-zero n) none

-- what is said of a refusal
pub on_err : {T E X : Type 0} (r : Result T E) → X → OnErr r X
on_err (Ok value) x = tt
on_err (Err error) x = x

-- some of the rows that a whole drawing cuts
pub up_to : {S : Type 0} (noted : ℕ → S → S → Type 0) (old new : S) (above i n count : ℕ) → i ≤ n → noted (above + min i count) old new
    → IsNotedUpTo noted (above + min n count) old new
up_to noted old new above i n count le notes = record { count = above + min i count; bound = omega arith; notes = notes }

-- a row is shown on an area that is not empty, where the page has it
pub shows_parts : (empty there : Bool) → (not empty && there) ≡ true → (empty ≡ false) × (there ≡ true)
shows_parts true there e = absurd (cc)
shows_parts false there e = (refl, e)

pub hides_part : (empty there : Bool) → empty ≡ false → (not empty && there) ≡ false → there ≡ false
hides_part true there some e = absurd (cc)
hides_part false there some e = e

pub lt_of_test : (m n : ℕ) → nat_lt m n ≡ true → m < n
lt_of_test m n e = grind (arith, nat_tests)

pub le_of_test : (m n : ℕ) → nat_lt m n ≡ false → n ≤ m
le_of_test m n e = grind (arith, nat_tests)

-- a refusal is told on
pub err_other : {T U E : Type 0} (e f : E) → IsErrOf {T = T} (Err e) f → IsErrOf {T = U} (Err e) f
err_other e f told = let same : e ≡ f = cc in ap (λ x. Err x) same
