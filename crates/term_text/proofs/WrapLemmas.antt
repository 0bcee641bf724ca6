-- The laws of `wrap`.
use Rattle.std.proofs.Common.{◌≡◌, ℕ, zero, suc, ◌<◌, ◌≤◌, Bool, true, false, cond, nat_le, List, [], ◌∷◌, length, take, drop, refl, sym, ap, ◌∙◌, arith}
use Rattle.std.proofs.lemmas.Bool.Decides.{nat_tests}
use Rattle.std.proofs.lemmas.Grind.{common_steps}
use Rattle.std.specs.List.{AllByRecursion}
use Rattle.std.proofs.lemmas.List.Elements.{recursion_from_All, All-from_recursion}
use Rattle.term_text.specs.Graph.{Grapheme, columns}
use Rattle.term_text.specs.Wrap.{fitting, last_blank, cut_of, skip_blanks, rest_of, unless_empty, wrap_within, wrap, NoneWider}

-- `NoneWider`, by recursion
abbrev pub Narrow : ℕ → List Grapheme → Type 0
Narrow w gs = AllByRecursion (λ g. g.width ≤ w) gs

pub Narrow-from : (w : ℕ) (gs : List Grapheme) → NoneWider w gs → Narrow w gs
Narrow-from w gs h = recursion_from_All (λ g. g.width ≤ w) gs h

pub NoneWider-from : (w : ℕ) (gs : List Grapheme) → Narrow w gs → NoneWider w gs
NoneWider-from w gs h = All-from_recursion (λ g. g.width ≤ w) gs h

-- ---- a cut takes at least one grapheme

last_blank-some : (gs : List Grapheme) (i d : ℕ) → 1 ≤ d → 1 ≤ last_blank gs i d
unfolding last_blank
last_blank-some gs zero d h = h
last_blank-some gs (suc i) d h = grind (arith, last_blank-some gs i d h)

fitting-some : (w : ℕ) (g : Grapheme) (gs : List Grapheme) → g.width ≤ w → 1 ≤ fitting w (g ∷ gs)
unfolding fitting
fitting-some w g gs h = grind (arith, nat_tests)

pub cut_of-some : (w : ℕ) (g : Grapheme) (gs : List Grapheme) → g.width ≤ w → 1 ≤ cut_of w (g ∷ gs)
cut_of-some w g gs h = last_blank-some (g ∷ gs) _ _ (fitting-some w g gs h)

length-skip_blanks : (gs : List Grapheme) → length (skip_blanks gs) ≤ length gs
unfolding skip_blanks
length-skip_blanks [] = omega arith
length-skip_blanks (g ∷ gs) = grind (arith, length-skip_blanks gs)

Narrow-skip : (w : ℕ) (gs : List Grapheme) → Narrow w gs → Narrow w (skip_blanks gs)
unfolding skip_blanks
Narrow-skip w [] h = tt
Narrow-skip w (g ∷ gs) h = go g.blank (Narrow-skip w gs h.1)
  where
    go : (b : Bool) → Narrow w (skip_blanks gs) → Narrow w (cond b (skip_blanks gs) (g ∷ gs))
    go true k = k
    go false k = h

Narrow-drop : (w n : ℕ) (gs : List Grapheme) → Narrow w gs → Narrow w (drop n gs)
Narrow-drop w zero gs h = h
Narrow-drop w (suc n) [] h = tt
Narrow-drop w (suc n) (g ∷ gs) h = Narrow-drop w n gs h.1

pub Narrow-rest : (w : ℕ) (gs : List Grapheme) → Narrow w gs → Narrow w (rest_of w gs)
Narrow-rest w gs h = Narrow-skip w _ (Narrow-drop w _ gs h)

-- what a cut leaves is no wider
pub NoneWider-after : (w n : ℕ) (gs : List Grapheme) → NoneWider w gs → NoneWider w (skip_blanks (drop n gs))
NoneWider-after w n gs h = NoneWider-from w _ (Narrow-skip w _ (Narrow-drop w n gs (Narrow-from w gs h)))

length-drop_some : (n : ℕ) (g : Grapheme) (gs : List Grapheme) → 1 ≤ n → length (drop n (g ∷ gs)) ≤ length gs
length-drop_some n g gs h = grind (arith, common_steps)

pub length-rest : (w : ℕ) (g : Grapheme) (gs : List Grapheme) → g.width ≤ w → length (rest_of w (g ∷ gs)) ≤ length gs
length-rest w g gs h =
    let a = cut_of-some w g gs h in
    let b = length-drop_some (cut_of w (g ∷ gs)) g gs a in
    let c = length-skip_blanks (drop (cut_of w (g ∷ gs)) (g ∷ gs)) in
    omega arith

-- ---- the number of cuts does not matter where it suffices

nat_le_zero : (w : ℕ) → nat_le 0 w ≡ true
nat_le_zero w = grind (arith, nat_tests)

pub wrap_within-nil : (n w : ℕ) → wrap_within n w [] ≡ [] ∷ []
unfolding wrap_within
wrap_within-nil zero w = refl
wrap_within-nil (suc n) w = rw (nat_le_zero w) refl

wrap_within-enough : (n m w : ℕ) (gs : List Grapheme) → length gs ≤ n → length gs ≤ m → Narrow w gs → wrap_within n w gs ≡ wrap_within m w gs
unfolding wrap_within
wrap_within-enough n m w [] h k ok = wrap_within-nil n w ∙ sym (wrap_within-nil m w)
wrap_within-enough zero m w (g ∷ gs) h k ok = absurd (omega arith)
wrap_within-enough (suc n) zero w (g ∷ gs) h k ok = absurd (omega arith)
wrap_within-enough (suc n) (suc m) w (g ∷ gs) h k ok =
    let shorter = length-rest w g gs ok.0 in
    ap (λ rows. cond (nat_le (columns (g ∷ gs)) w) ((g ∷ gs) ∷ []) (take (cut_of w (g ∷ gs)) (g ∷ gs) ∷ unless_empty (rest_of w (g ∷ gs)) rows))
    (wrap_within-enough n m w (rest_of w (g ∷ gs)) (omega arith) (omega arith) (Narrow-rest w (g ∷ gs) ok))

-- what fits is one row
pub wrap-fits : (w : ℕ) (gs : List Grapheme) → columns gs ≤ w → wrap w gs ≡ gs ∷ []
unfolding wrap wrap_within
wrap-fits w [] h = refl
wrap-fits w (g ∷ gs) h = rw (test (columns (g ∷ gs)) w h) refl
  where
    test : (a b : ℕ) → a ≤ b → nat_le a b ≡ true
    test a b h = grind (arith, nat_tests)

-- what does not fit is a first row, and the rows of the rest if anything is left
pub wrap-cut : (w : ℕ) (gs : List Grapheme) → w < columns gs → Narrow w gs
    → wrap w gs ≡ take (cut_of w gs) gs ∷ unless_empty (rest_of w gs) (wrap w (rest_of w gs))
unfolding wrap wrap_within
wrap-cut w [] h ok = absurd (omega arith)
wrap-cut w (g ∷ gs) h ok =
    let shorter = length-rest w g gs ok.0 in
    rw (test (columns (g ∷ gs)) w h)
    (ap (λ rows. take (cut_of w (g ∷ gs)) (g ∷ gs) ∷ unless_empty (rest_of w (g ∷ gs)) rows)
    (wrap_within-enough (length gs) (length (rest_of w (g ∷ gs))) w (rest_of w (g ∷ gs)) (omega arith) (omega arith) (Narrow-rest w (g ∷ gs) ok)))
  where
    test : (a b : ℕ) → b < a → nat_le a b ≡ false
    test a b h = grind (arith, nat_tests)
