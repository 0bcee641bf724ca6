-- Areas, and what lies in them.
use Rattle.std.proofs.Common.{◌≡◌, ℕ, ◌+◌, ◌-◌, ◌^◌, ◌<◌, Bool, true, false, cond, nat_le, nat_lt, ◌==◌, ◌||◌, ◌&&◌, Option, ap, ◌∙◌, arith}
use Rattle.std.proofs.Props.{props}
use Rattle.std.proofs.lemmas.Bool.Decides.{nat_tests}
use mathlib.Core.HLevel.{is_prop→PathP}
use Rattle.term_core.specs.declared.rect.Rect.{Rect}
use Rattle.term_core.specs.Rect.{has_place, is_empty, intersection}
use Rattle.term_core.specs.Buffers.{BufferView, cell_at, IsWithin}
use Rattle.term_core.specs.Cells.{CellView}
use Rattle.term_core.proofs.BufferLemmas.{IsIn-from, has_place-from}
use Rattle.term_core.proofs.RectLemmas.{has_place-intersection}

-- rectangles with the same numbers are the same
pub same_rect : (r s : Rect) → r.x ≡ s.x → r.y ≡ s.y → r.width ≡ s.width → r.height ≡ s.height → r ≡ s
same_rect r s ex ey ew eh =
    λ i. record {
      x = ex i;
      y = ey i;
      width = ew i;
      height = eh i;
      right_fits = is_prop→PathP (λ j. ex j + ew j < 2 ^ 16) (λ j. hlevel props) r.right_fits s.right_fits i;
      bottom_fits = is_prop→PathP (λ j. ey j + eh j < 2 ^ 16) (λ j. hlevel props) r.bottom_fits s.bottom_fits i;
    }

-- ---- empty areas

-- an area that is not empty has a column and a row
pub some_columns : (w h : ℕ) → (w == 0 || h == 0) ≡ false → 0 < w
some_columns w h e = grind (arith, nat_tests)

pub some_rows : (w h : ℕ) → (w == 0 || h == 0) ≡ false → 0 < h
some_rows w h e = grind (arith, nat_tests)

no_place : (rx ry w h x y : ℕ) → (w == 0 || h == 0) ≡ true → ((nat_le rx x && nat_lt x (rx + w)) && (nat_le ry y && nat_lt y (ry + h))) ≡ false
no_place rx ry w h x y e = grind (arith, nat_tests)

pub has_place-empty : (r : Rect) (x y : ℕ) → is_empty r ≡ true → has_place r x y ≡ false
has_place-empty r x y e = no_place r.x r.y r.width r.height x y e

-- ---- the part of an area that a buffer has

and_false : (a b : Bool) → a ≡ false → (a && b) ≡ false
and_false a b e = ap (λ t. t && b) e

-- what is not in an area is not in that part
pub has_place-outside : (r s : Rect) (x y : ℕ) → has_place r x y ≡ false → has_place (intersection r s) x y ≡ false
has_place-outside r s x y e = has_place-intersection r s x y ∙ and_false (has_place r x y) (has_place s x y) e

-- what changes only that part changes nothing outside the area
pub stays_outside : (r s : Rect) (made : ℕ → ℕ → Option CellView) (old new : BufferView)
    → ((p q : ℕ) → cell_at new p q ≡ cond (has_place (intersection r s) p q) (made p q) (cell_at old p q))
    → (p q : ℕ) → has_place r p q ≡ false → cell_at new p q ≡ cell_at old p q
stays_outside r s made old new cells p q e = cells p q ∙ ap (λ t. cond t (made p q) (cell_at old p q)) (has_place-outside r s p q e)

-- the part of an area that a buffer has as a whole is the area
pub intersection-within : (r s : Rect) → is_empty r ≡ false → IsWithin r s → intersection r s ≡ r
intersection-within r s some within =
    let w = some_columns r.width r.height some in
    let h = some_rows r.width r.height some in
    let first = IsIn-from s.x s.y s.width s.height r.x r.y
    (within r.x r.y (has_place-from r.x r.y r.width r.height r.x r.y (omega arith) (omega arith) (omega arith) (omega arith))) in
    let last = IsIn-from s.x s.y s.width s.height (r.x + (r.width - 1)) (r.y + (r.height - 1))
    (within (r.x + (r.width - 1)) (r.y + (r.height - 1))
    (has_place-from r.x r.y r.width r.height (r.x + (r.width - 1)) (r.y + (r.height - 1)) (omega arith) (omega arith) (omega arith) (omega arith))) in
    let fl = first.left in let ft = first.top in
    let lr = last.right in let lb = last.bottom in
    same_rect (intersection r s) r (omega arith) (omega arith) (omega arith) (omega arith)
