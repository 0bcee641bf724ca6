-- The rows of a wrap are narrow, and joined they are the graphemes without some blanks.
use Rattle.std.proofs.Common.{◌≡◌, ℕ, zero, suc, ◌-◌, ◌≤◌, Bool, true, false, cond, nat_le, List, [], ◌∷◌, ◌++◌, length, take, drop, refl, sym, subst, arith, append-nil, le_refl}
use Rattle.std.proofs.lemmas.List.{take-append-drop}
use Rattle.std.proofs.lemmas.List.Elements.{All-from_recursion}
use Rattle.std.specs.List.{AllByRecursion}
use Rattle.term_text.specs.Lists.{joined}
use Rattle.term_text.specs.Graph.{Grapheme, columns}
use Rattle.term_text.specs.Wrap.{fitting, last_blank, cut_of, skip_blanks, rest_of, unless_empty, wrap_within, wrap, NoneWider, Thinned, none, keep, skip, AllNarrow}
use Rattle.term_text.proofs.WrapLemmas.{Narrow, Narrow-from, Narrow-rest, length-rest, wrap_within-nil}
use Rattle.term_text.proofs.CutLemmas.{columns-cons, le_of_test}

last_blank-le : (gs : List Grapheme) (i d k : ℕ) → i ≤ k → d ≤ k → last_blank gs i d ≤ k
unfolding last_blank
last_blank-le gs zero d k p q = q
last_blank-le gs (suc i) d k p q = grind (arith, last_blank-le gs i d k (omega arith) q)

fitting-over : (w n : ℕ) (g : Grapheme) (gs : List Grapheme) → suc n ≤ fitting w (g ∷ gs) → (g.width ≤ w) × (n ≤ fitting (w - g.width) gs)
unfolding fitting
fitting-over w n g gs h = go (nat_le g.width w) refl h
  where
    go : (b : Bool) → nat_le g.width w ≡ b → suc n ≤ cond b (suc (fitting (w - g.width) gs)) 0 → (g.width ≤ w) × (n ≤ fitting (w - g.width) gs)
    go true e k = (le_of_test _ _ e, omega arith)
    go false e k = absurd (omega arith)

columns-take : (gs : List Grapheme) (w n : ℕ) → n ≤ fitting w gs → columns (take n gs) ≤ w
columns-take gs w zero h = omega arith
columns-take [] w (suc n) h = omega arith
columns-take (g ∷ gs) w (suc n) h =
    let over = fitting-over w n g gs h in
    let p : g.width ≤ w = over.0 in
    let rest = columns-take gs (w - g.width) n over.1 in
    omega (arith, columns-cons g (take n gs))

-- a cut row is narrow
pub columns-cut : (w : ℕ) (gs : List Grapheme) → columns (take (cut_of w gs) gs) ≤ w
columns-cut w gs = columns-take gs w (cut_of w gs) (last_blank-le gs (fitting w gs) (fitting w gs) (fitting w gs) (le_refl _) (le_refl _))

unless_narrow : (w : ℕ) (rest : List Grapheme) (rows : List (List Grapheme)) → AllByRecursion (λ row. columns row ≤ w) rows
    → AllByRecursion (λ row. columns row ≤ w) (unless_empty rest rows)
unless_narrow w [] rows h = tt
unless_narrow w (g ∷ gs) rows h = h

narrow_step : (b : Bool) (w : ℕ) (gs : List Grapheme) (rows : List (List Grapheme)) → nat_le (columns gs) w ≡ b → AllByRecursion (λ row. columns row ≤ w) rows
    → AllByRecursion (λ row. columns row ≤ w) (cond b (gs ∷ []) (take (cut_of w gs) gs ∷ unless_empty (rest_of w gs) rows))
narrow_step true w gs rows e h = (le_of_test _ _ e, tt)
narrow_step false w gs rows e h = (columns-cut w gs, unless_narrow w (rest_of w gs) rows h)

wrap_within-narrow : (n w : ℕ) (gs : List Grapheme) → length gs ≤ n → Narrow w gs → AllByRecursion (λ row. columns row ≤ w) (wrap_within n w gs)
unfolding wrap_within
wrap_within-narrow n w [] h ok = rw (wrap_within-nil n w) (omega arith, tt)
wrap_within-narrow zero w (g ∷ gs) h ok = absurd (omega arith)
wrap_within-narrow (suc n) w (g ∷ gs) h ok =
    let shorter = length-rest w g gs ok.0 in
    narrow_step (nat_le (columns (g ∷ gs)) w) w (g ∷ gs) (wrap_within n w (rest_of w (g ∷ gs))) refl
    (wrap_within-narrow n w (rest_of w (g ∷ gs)) (omega arith) (Narrow-rest w (g ∷ gs) ok))

pub AllNarrow-wrap : (w : ℕ) (gs : List Grapheme) → NoneWider w gs → AllNarrow w (wrap w gs)
unfolding wrap
AllNarrow-wrap w gs ok = All-from_recursion (λ row. columns row ≤ w) (wrap w gs) (wrap_within-narrow (length gs) w gs (le_refl _) (Narrow-from w gs ok))

-- ---- what is lost

Thinned-self : (gs : List Grapheme) → Thinned gs gs
Thinned-self [] = none
Thinned-self (g ∷ gs) = keep g (Thinned-self gs)

Thinned-append : (front : List Grapheme) {gs rest : List Grapheme} → Thinned gs rest → Thinned (front ++ gs) (front ++ rest)
Thinned-append [] t = t
Thinned-append (g ∷ front) t = keep g (Thinned-append front t)

Thinned-skip : (gs rest : List Grapheme) → Thinned (skip_blanks gs) rest → Thinned gs rest
unfolding skip_blanks
Thinned-skip [] rest t = t
Thinned-skip (g ∷ gs) rest t = go g.blank refl (Thinned-skip gs rest) t
  where
    go : (b : Bool) → g.blank ≡ b → (Thinned (skip_blanks gs) rest → Thinned gs rest) → Thinned (cond b (skip_blanks gs) (g ∷ gs)) rest → Thinned (g ∷ gs) rest
    go true e f t = skip g e (f t)
    go false e f t = t

unless_thinned : (rest : List Grapheme) (rows : List (List Grapheme)) → Thinned rest (joined rows) → Thinned rest (joined (unless_empty rest rows))
unless_thinned [] rows t = none
unless_thinned (g ∷ gs) rows t = t

thinned_step : (b : Bool) (w : ℕ) (gs : List Grapheme) (rows : List (List Grapheme)) → Thinned (rest_of w gs) (joined rows)
    → Thinned gs (joined (cond b (gs ∷ []) (take (cut_of w gs) gs ∷ unless_empty (rest_of w gs) rows)))
thinned_step true w gs rows t = subst (Thinned gs) (sym (append-nil gs)) (Thinned-self gs)
thinned_step false w gs rows t =
    subst (λ all. Thinned all (take (cut_of w gs) gs ++ joined (unless_empty (rest_of w gs) rows))) (take-append-drop (cut_of w gs) gs)
    (Thinned-append (take (cut_of w gs) gs) (Thinned-skip (drop (cut_of w gs) gs) _ (unless_thinned (rest_of w gs) rows t)))

wrap_within-thinned : (n w : ℕ) (gs : List Grapheme) → length gs ≤ n → Narrow w gs → Thinned gs (joined (wrap_within n w gs))
unfolding wrap_within
wrap_within-thinned n w [] h ok = rw (wrap_within-nil n w) none
wrap_within-thinned zero w (g ∷ gs) h ok = absurd (omega arith)
wrap_within-thinned (suc n) w (g ∷ gs) h ok =
    let shorter = length-rest w g gs ok.0 in
    thinned_step (nat_le (columns (g ∷ gs)) w) w (g ∷ gs) (wrap_within n w (rest_of w (g ∷ gs)))
    (wrap_within-thinned n w (rest_of w (g ∷ gs)) (omega arith) (Narrow-rest w (g ∷ gs) ok))

-- the rows joined are the graphemes without some blanks
pub Thinned-wrap : (w : ℕ) (gs : List Grapheme) → NoneWider w gs → Thinned gs (joined (wrap w gs))
unfolding wrap
Thinned-wrap w gs ok = wrap_within-thinned (length gs) w gs (le_refl _) (Narrow-from w gs ok)
