-- What is said of a list of lines, from what is said of each.
use Rattle.std.proofs.Common.{◌≡◌, ℕ, zero, suc, ◌+◌, ◌<◌, ◌≤◌, Bool, true, false, nat_lt, ◌||◌, List, [], ◌∷◌, ◌++◌, length, take, drop, get_or, Option, Some, None, refl, sym, ap, ap₂, subst, ◌∙◌, arith, append_assoc, append-nil, length-append, drop-cons, add-one}
use Rattle.std.specs.Prelude.{is_some, IfSome}
use Rattle.std.proofs.lemmas.Bool.Decides.{nat_tests}
use Rattle.std.proofs.lemmas.List.{take_more, take-append-drop}
use Rattle.term_core.specs.Graph.{Grapheme, graphs}
use Rattle.term_core.specs.Text.{LineView}
use Rattle.term_core.specs.Wrap.{wrap, NoneWider}
use Rattle.term_text.proofs.WrapLemmas.{Narrow, Narrow-from, NoneWider-from}
use Rattle.term_widgets.specs.Page.{rows_of, any_wider, is_wider, AllFit}

-- ---- the graphemes of one line

or_parts : (a b : Bool) → (a || b) ≡ false → (a ≡ false) × (b ≡ false)
or_parts true b e = absurd (cc)
or_parts false b e = (refl, e)

le_of_not_lt : (w n : ℕ) → nat_lt w n ≡ false → n ≤ w
le_of_not_lt w n e = grind (arith, nat_tests)

not_lt_of_le : (w n : ℕ) → n ≤ w → nat_lt w n ≡ false
not_lt_of_le w n e = grind (arith, nat_tests)

Narrow-from_test : (w : ℕ) (gs : List Grapheme) → is_wider w gs ≡ false → Narrow w gs
Narrow-from_test w [] e = tt
Narrow-from_test w (g ∷ gs) e =
    let parts = or_parts (nat_lt w g.width) (is_wider w gs) e in
    (le_of_not_lt w g.width parts.0, Narrow-from_test w gs parts.1)

test_from_Narrow : (w : ℕ) (gs : List Grapheme) → Narrow w gs → is_wider w gs ≡ false
test_from_Narrow w [] h = refl
test_from_Narrow w (g ∷ gs) h = ap₂ (λ a b. a || b) (not_lt_of_le w g.width h.0) (test_from_Narrow w gs h.1)

pub NoneWider-from_test : (w : ℕ) (gs : List Grapheme) → is_wider w gs ≡ false → NoneWider w gs
NoneWider-from_test w gs e = NoneWider-from w gs (Narrow-from_test w gs e)

pub test_from_NoneWider : (w : ℕ) (gs : List Grapheme) → NoneWider w gs → is_wider w gs ≡ false
test_from_NoneWider w gs h = test_from_Narrow w gs (Narrow-from w gs h)

-- ---- lists of lines

pub rows_of-append : (w : ℕ) (xs ys : List LineView) → rows_of w (xs ++ ys) ≡ rows_of w xs ++ rows_of w ys
unfolding rows_of
rows_of-append w [] ys = refl
rows_of-append w (l ∷ xs) ys = ap (λ t. wrap w (graphs l) ++ t) (rows_of-append w xs ys) ∙ sym (append_assoc (wrap w (graphs l)) (rows_of w xs) (rows_of w ys))

rows_of-one : (w : ℕ) (line : LineView) → rows_of w (line ∷ []) ≡ wrap w (graphs line)
unfolding rows_of
rows_of-one w line = append-nil (wrap w (graphs line))

pub rows_of-cons : (w : ℕ) (line : LineView) (lines : List LineView) → rows_of w (line ∷ lines) ≡ wrap w (graphs line) ++ rows_of w lines
unfolding rows_of
rows_of-cons w line lines = refl

pub any_wider-append : (w : ℕ) (xs ys : List LineView) → any_wider w (xs ++ ys) ≡ (any_wider w xs || any_wider w ys)
unfolding any_wider
any_wider-append w [] ys = refl
any_wider-append w (l ∷ xs) ys = ap (λ t. is_wider w (graphs l) || t) (any_wider-append w xs ys) ∙ or_assoc (is_wider w (graphs l)) (any_wider w xs) (any_wider w ys)
  where
    or_assoc : (a b c : Bool) → (a || (b || c)) ≡ ((a || b) || c)
    or_assoc true b c = refl
    or_assoc false b c = refl

or_false : (a : Bool) → (a || false) ≡ a
or_false true = refl
or_false false = refl

any_wider-one : (w : ℕ) (line : LineView) → any_wider w (line ∷ []) ≡ is_wider w (graphs line)
unfolding any_wider
any_wider-one w line = or_false (is_wider w (graphs line))

pub AllFit-cons : (w : ℕ) (line : LineView) (lines : List LineView) → AllFit w (line ∷ lines) → NoneWider w (graphs line) × AllFit w lines
unfolding any_wider
AllFit-cons w line lines e =
    let parts = or_parts (is_wider w (graphs line)) (any_wider w lines) e in
    (NoneWider-from_test w (graphs line) parts.0, parts.1)

pub AllFit-none : (w : ℕ) → AllFit w []
unfolding any_wider
AllFit-none w = refl

pub rows_of-none : (w : ℕ) → rows_of w [] ≡ []
unfolding rows_of
rows_of-none w = refl

pub AllFit-drop : (w n : ℕ) (lines : List LineView) → AllFit w lines → AllFit w (drop n lines)
AllFit-drop w zero lines e = e
AllFit-drop w (suc n) [] e = e
AllFit-drop w (suc n) (line ∷ lines) e = AllFit-drop w n lines (AllFit-cons w line lines e).1

-- the line at the index k, of a list that is walked
module _ (w : ℕ) (lines : List LineView) (k : ℕ) (line : LineView) (lt : k < length lines) (is : line ≡ get_or lines k line) where
  one_more : take (k + 1) lines ≡ take k lines ++ line ∷ []
  one_more = take_more lines k line lt ∙ ap (λ x. take k lines ++ x ∷ []) (sym is)

  pub rows_of-more : rows_of w (take (k + 1) lines) ≡ rows_of w (take k lines) ++ wrap w (graphs line)
  rows_of-more = ap (rows_of w) one_more ∙ rows_of-append w (take k lines) (line ∷ []) ∙ ap (λ t. rows_of w (take k lines) ++ t) (rows_of-one w line)

  pub AllFit-more : AllFit w (take k lines) → NoneWider w (graphs line) → AllFit w (take (k + 1) lines)
  AllFit-more e fits =
      ap (any_wider w) one_more ∙ any_wider-append w (take k lines) (line ∷ [])
      ∙ ap₂ (λ a b. a || b) e (any_wider-one w line ∙ test_from_NoneWider w (graphs line) fits)

  rest_is : drop k lines ≡ line ∷ drop (k + 1) lines
  rest_is = drop-cons lines k line lt ∙ ap₂ (λ x n. x ∷ drop n lines) (sym is) (sym (add-one k))

  -- the line fits, and so do those after it
  pub AllFit-next : AllFit w (drop k lines) → NoneWider w (graphs line) × AllFit w (drop (k + 1) lines)
  AllFit-next e = AllFit-cons w line (drop (k + 1) lines) (subst (AllFit w) rest_is e)

  pub rows_of-next : rows_of w (drop k lines) ≡ wrap w (graphs line) ++ rows_of w (drop (k + 1) lines)
  rows_of-next = ap (rows_of w) rest_is ∙ rows_of-cons w line (drop (k + 1) lines)

  -- a line with a grapheme that is too wide is one of the lines
  pub any_wider-at : ¬ (NoneWider w (graphs line)) → any_wider w lines ≡ true
  any_wider-at wide = go (any_wider w lines) refl
    where
      go : (b : Bool) → any_wider w lines ≡ b → any_wider w lines ≡ true
      go true e = e
      go false e =
          let all : AllFit w (line ∷ drop (k + 1) lines) = subst (AllFit w) rest_is (AllFit-drop w k lines e) in
          absurd (wide (AllFit-cons w line (drop (k + 1) lines) all).0)

  -- there are as many rows as up to the line and in it, or more
  pub rows_of-least : length (rows_of w (take k lines)) + length (wrap w (graphs line)) ≤ length (rows_of w lines)
  rows_of-least =
      let upto = ap length rows_of-more in
      let both = ap length (rows_of-append w (take (k + 1) lines) (drop (k + 1) lines)) in
      let whole = ap (λ t. length (rows_of w t)) (take-append-drop (k + 1) lines) in
      omega (
        arith,
        length-append (rows_of w (take k lines)) (wrap w (graphs line)),
        length-append (rows_of w (take (k + 1) lines)) (rows_of w (drop (k + 1) lines)),
      )

-- a line that is lent from lines that fit
pub lent_fits : {R : Type 0} (now : R → LineView) (o : Option R) (w k : ℕ) (lines : List LineView) → AllFit w lines
    → is_some o ≡ nat_lt k (length lines) → IfSome o (λ x. now x ≡ get_or lines k (now x)) → IfSome o (λ x. NoneWider w (graphs (now x)))
lent_fits now None w k lines fits some is = tt
lent_fits now (Some x) w k lines fits some is =
    let lt : k < length lines = grind (arith, nat_tests, some) in
    (AllFit-next w lines k (now x) lt is (AllFit-drop w k lines fits)).0
