-- Graphemes that are written over cells, stroke by stroke.
use Rattle.std.proofs.Common.{◌≡◌, ℕ, zero, suc, ◌+◌, ◌-◌, ◌<◌, ◌≤◌, Bool, true, false, cond, nat_le, nat_lt, ◌==◌, ◌&&◌, List, [], ◌∷◌, ◌++◌, length, take, take_all, replicate, get_or, Option, Some, None, refl, sym, ap, ap₂, ◌∙◌, arith, append_assoc, length-append}
use Rattle.std.specs.Prelude.{slice_get, option_map}
use Rattle.std.proofs.lemmas.Bool.Decides.{nat_tests}
use Rattle.std.proofs.lemmas.List.{get_or-take, take-take, length-replicate}
use Rattle.std.proofs.lemmas.Option.{slice_get-get_or}
use Rattle.term_text.specs.Graph.{Grapheme}
use Rattle.term_text.specs.Wrap.{fitting}
use Rattle.term_core.specs.declared.caption.Stroke.{Stroke}
use Rattle.term_core.specs.declared.caption.Stroke.TheVariants.{Symbol, Blank}
use Rattle.term_core.specs.Buffers.{BufferView, cell_at}
use Rattle.term_core.specs.Caption.{fitted, strokes, struck}
use Rattle.term_core.specs.Cells.{CellView, blank_cell}

-- ---- the strokes of a line

pub strokes-none : (w : ℕ) → strokes (fitted w []) ≡ []
unfolding fitting strokes
strokes-none w = refl

-- a grapheme that does not fit ends the caption
pub strokes-over : (w : ℕ) (g : Grapheme) (gs : List Grapheme) → w < g.width → strokes (fitted w (g ∷ gs)) ≡ []
unfolding fitting strokes
strokes-over w g gs over = ap (λ b. strokes (take (cond b (suc (fitting (w - g.width) gs)) 0) (g ∷ gs))) (test g.width w over)
  where
    test : (a b : ℕ) → b < a → nat_le a b ≡ false
    test a b h = grind (arith, nat_tests)

fitted-more : (w : ℕ) (g : Grapheme) (gs : List Grapheme) → g.width ≤ w → fitted w (g ∷ gs) ≡ g ∷ fitted (w - g.width) gs
unfolding fitting
fitted-more w g gs fits = ap (λ b. take (cond b (suc (fitting (w - g.width) gs)) 0) (g ∷ gs)) (test g.width w fits)
  where
    test : (a b : ℕ) → a ≤ b → nat_le a b ≡ true
    test a b h = grind (arith, nat_tests)

-- one that fits is in front of those that fit behind it
pub strokes-more : (w : ℕ) (g : Grapheme) (gs : List Grapheme) (before after : List Stroke) → g.width ≤ w
    → after ≡ (before ++ Symbol (record blank_cell { symbol = g.symbol }) g.style ∷ []) ++ replicate (g.width - 1) Blank
    → after ++ strokes (fitted (w - g.width) gs) ≡ before ++ strokes (fitted w (g ∷ gs))
unfolding strokes
strokes-more w g gs before after fits e = rw (e, fitted-more w g gs fits) (simp append_assoc)

-- it takes its columns
pub length-more : (n : ℕ) (s : Stroke) (before after : List Stroke) → 1 ≤ n → after ≡ (before ++ s ∷ []) ++ replicate (n - 1) Blank
    → length after ≡ length before + n
length-more n s before after some e =
    let all = ap length e in
    omega (arith, all, length-append (before ++ s ∷ []) (replicate (n - 1) Blank), length-append before (s ∷ []), length-replicate (n - 1) Blank)

-- ---- strokes that are done from the last to the first

pub slice_get-past : {A : Type 0} (xs : List A) (k : ℕ) → length xs ≤ k → slice_get xs k ≡ None
slice_get-past [] k h = refl
slice_get-past (x ∷ xs) zero h = absurd (omega arith)
slice_get-past (x ∷ xs) (suc k) h = slice_get-past xs k (omega arith)

pub option_map-struck_none : (o : Option CellView) → option_map (struck None) o ≡ o
option_map-struck_none None = refl
option_map-struck_none (Some c) = refl

-- the strokes from number n on are done, and the others are still to be done
pub record StruckFrom (x y : ℕ) (all : List Stroke) (n : ℕ) (rest : List Stroke) (old new : BufferView) : Type 0 where
  pub within : n ≤ length all
  pub rest_is : rest ≡ take n all
  pub area : new.area ≡ old.area
  pub cells : (p q : ℕ) → cell_at new p q
      ≡ cond ((q == y) && nat_le (x + n) p) (option_map (struck (slice_get all (p - x))) (cell_at old p q)) (cell_at old p q)

pub StruckFrom-init : (x y : ℕ) (all : List Stroke) (n : ℕ) (old : BufferView) → n ≡ length all → StruckFrom x y all n all old old
StruckFrom-init x y all n old e =
    record {
      within = omega arith;
      rest_is = sym (take_all n all (omega arith));
      area = refl;
      cells = λ p q. go p (q == y) (cell_at old p q) (nat_le (x + n) p) refl;
    }
  where
    past : (a b p : ℕ) → nat_le (a + b) p ≡ true → b ≤ p - a
    past a b p h = grind (arith, nat_tests)

    go : (p : ℕ) (a : Bool) (o : Option CellView) (b : Bool) → nat_le (x + n) p ≡ b
        → o ≡ cond (a && b) (option_map (struck (slice_get all (p - x))) o) o
    go p false o b f = refl
    go p true o false f = refl
    go p true o true f =
        let behind : n ≤ p - x = past x n p f in
        sym (ap (λ s. option_map (struck s) o) (slice_get-past all (p - x) (omega arith)) ∙ option_map-struck_none o)

module _ (x y : ℕ) (all rest rest' : List Stroke) (n m : ℕ) (s : Stroke) (old b new : BufferView) where
  strike_cell : slice_get all m ≡ Some s
      → ((p q : ℕ) → cell_at b p q
      ≡ cond ((q == y) && nat_le (x + suc m) p) (option_map (struck (slice_get all (p - x))) (cell_at old p q)) (cell_at old p q))
      → ((p q : ℕ) → cell_at new p q ≡ cond ((p == x + m) && (q == y)) (option_map (struck (Some s)) (cell_at b p q)) (cell_at b p q))
      → (p q : ℕ) → cell_at new p q
      ≡ cond ((q == y) && nat_le (x + m) p) (option_map (struck (slice_get all (p - x))) (cell_at old p q)) (cell_at old p q)
  strike_cell is inv set p q = set p q ∙ go (p == x + m) refl (q == y) (inv p q)
    where
      at : (p x m : ℕ) → (p == x + m) ≡ true → p - x ≡ m
      at p x m h = grind (arith, nat_tests)

      here : (p x m : ℕ) → (p == x + m) ≡ true → nat_le (x + m) p ≡ true
      here p x m h = grind (arith, nat_tests)

      before : (p x m : ℕ) → (p == x + m) ≡ true → nat_le (x + suc m) p ≡ false
      before p x m h = grind (arith, nat_tests)

      apart : (p x m : ℕ) → (p == x + m) ≡ false → nat_le (x + suc m) p ≡ nat_le (x + m) p
      apart p x m h = grind (arith, nat_tests)

      go : (d : Bool) → (p == x + m) ≡ d → (a : Bool)
          → cell_at b p q ≡ cond (a && nat_le (x + suc m) p) (option_map (struck (slice_get all (p - x))) (cell_at old p q)) (cell_at old p q)
          → cond (d && a) (option_map (struck (Some s)) (cell_at b p q)) (cell_at b p q)
          ≡ cond (a && nat_le (x + m) p) (option_map (struck (slice_get all (p - x))) (cell_at old p q)) (cell_at old p q)
      go true e true i =
          let stays : cell_at b p q ≡ cell_at old p q =
          i ∙ ap (λ t. cond t (option_map (struck (slice_get all (p - x))) (cell_at old p q)) (cell_at old p q)) (before p x m e) in
          ap (option_map (struck (Some s))) stays
          ∙ sym (ap₂ (λ t k. cond t (option_map (struck k) (cell_at old p q)) (cell_at old p q)) (here p x m e) (ap (slice_get all) (at p x m e) ∙ is))
      go true e false i = i
      go false e true i =
          i ∙ ap (λ t. cond t (option_map (struck (slice_get all (p - x))) (cell_at old p q)) (cell_at old p q)) (apart p x m e)
      go false e false i = i

  pub StruckFrom-step : StruckFrom x y all n rest old b → m + 1 ≡ n
      → ((d : Stroke) → 0 < n → Some s ≡ Some (get_or rest (n - 1) d)) → rest' ≡ take (n - 1) rest → new.area ≡ b.area
      → ((p q : ℕ) → cell_at new p q ≡ cond ((p == x + m) && (q == y)) (option_map (struck (Some s)) (cell_at b p q)) (cell_at b p q))
      → StruckFrom x y all m rest' old new
  StruckFrom-step inv e value rest_is area set =
      let within = inv.within in
      let last : n - 1 ≡ m = omega arith in
      let next : suc m ≡ n = omega arith in
      let item : slice_get all m ≡ Some s =
      slice_get-get_or all m s (omega arith)
      ∙ ap (λ (v : Stroke). Some v) (sym (ap (λ l. get_or l m s) inv.rest_is ∙ get_or-take n all m s (omega arith)))
      ∙ sym (value s (omega arith) ∙ ap (λ k. Some (get_or rest k s)) last) in
      record {
        within = omega arith;
        rest_is = rest_is ∙ ap₂ take last inv.rest_is ∙ take-take m n all (omega arith);
        area = area ∙ inv.area;
        cells = strike_cell item
            (λ p q. inv.cells p q ∙ ap (λ k. cond ((q == y) && nat_le (x + k) p) (option_map (struck (slice_get all (p - x))) (cell_at old p q)) (cell_at old p q)) (sym next)) set;
      }
