-- A buffer after a page is drawn on all of it.
use Rattle.std.proofs.Common.{◌≡◌, ℕ, zero, suc, ◌+◌, ◌-◌, ◌*◌, ◌<◌, true, cond, ◌&&◌, List, [], ◌∷◌, ◌++◌, length, refl, sym, ap, ap₂, subst, ◌∙◌, arith}
use Rattle.std.specs.Prelude.{slice_get, max}
use Rattle.term_core.specs.declared.rect.Rect.{Rect}
use Rattle.term_core.specs.Rect.{has_place, place_of, intersection, common_length}
use Rattle.term_core.specs.Buffers.{BufferView, cell_at}
use Rattle.term_core.specs.BufferRows.{buffer_rows}
use Rattle.term_core.specs.Cells.{view}
use Rattle.term_core.specs.Graph.{Grapheme, graphs}
use Rattle.term_core.specs.Lists.{joined}
use Rattle.term_core.specs.Text.{LineView}
use Rattle.term_core.specs.Wrap.{wrap}
use Rattle.term_core.proofs.BufferRowsLemmas.{RowsTake, buffer_rows-view, cell_rows-none}
use Rattle.term_core.proofs.CellLemmas.{length-cells}
use Rattle.term_core.proofs.RectLemmas.{has_place-intersection}
use Rattle.term_core.proofs.ShownLemmas.{RowsShown, RowsShown-wrap, AllShown-graphs}
use Rattle.term_widgets.specs.Page.{PageView, page_rows, rows_of, AllFit}
use Rattle.term_widgets.proofs.RowLemmas.{Narrows, narrows-rows_of}

-- ---- the rows of a page take its columns

shown-append : (xs ys : List (List Grapheme)) → RowsShown xs → RowsShown ys → RowsShown (xs ++ ys)
shown-append [] ys p q = q
shown-append (x ∷ xs) ys p q = (p.0, shown-append xs ys p.1 q)

pub RowsShown-rows_of : (w : ℕ) (lines : List LineView) → RowsShown (rows_of w lines)
unfolding rows_of
RowsShown-rows_of w [] = tt
RowsShown-rows_of w (line ∷ lines) =
    shown-append (wrap w (graphs line)) (rows_of w lines) (RowsShown-wrap w (graphs line) (AllShown-graphs line)) (RowsShown-rows_of w lines)

rows_take : (w : ℕ) (rows : List (List Grapheme)) → Narrows w rows → RowsShown rows → RowsTake w rows
rows_take w [] p q k = length-cells [] w tt (omega arith)
rows_take w (row ∷ rows) p q zero = length-cells row w q.0 p.0
rows_take w (row ∷ rows) p q (suc k) = rows_take w rows p.1 q.1 k

pub RowsTake-rows_of : (w : ℕ) (lines : List LineView) → AllFit w lines → RowsTake w (rows_of w lines)
RowsTake-rows_of w lines fits = rows_take w (rows_of w lines) (narrows-rows_of w lines fits) (RowsShown-rows_of w lines)

-- ---- the common part of an area and itself

pub same_length : (a m : ℕ) → common_length a m a m ≡ m
same_length a m = omega arith

same_start : (a : ℕ) → max a a ≡ a
same_start a = omega arith

has_place-same : (r : Rect) (x y : ℕ) → has_place r x y ≡ true → has_place (intersection r r) x y ≡ true
has_place-same r x y e = has_place-intersection r r x y ∙ ap₂ (λ a b. a && b) e e

place_of-same : (r : Rect) (x y : ℕ) → place_of (intersection r r) x y ≡ place_of r x y
place_of-same r x y =
    ap₂ (λ a w. (y - a) * w + (x - max r.x r.x)) (same_start r.y) (same_length r.x r.width)
    ∙ ap (λ a. (y - r.y) * r.width + (x - a)) (same_start r.x)

-- the cells of a drawing on the whole area
whole : (rows : List (List Grapheme)) (r : Rect) (old new : BufferView) (scroll : ℕ)
    → ((x y : ℕ) → cell_at new x y ≡ cond (has_place (intersection r r) x y)
    (slice_get (joined (view rows (intersection r r).width (intersection r r).height scroll)) (place_of (intersection r r) x y)) (cell_at old x y))
    → (x y : ℕ) → has_place r x y ≡ true → cell_at new x y ≡ slice_get (joined (view rows r.width r.height scroll)) (place_of r x y)
whole rows r old new scroll drawn x y inside =
    drawn x y
    ∙ ap (λ t. cond t (slice_get (joined (view rows (intersection r r).width (intersection r r).height scroll)) (place_of (intersection r r) x y)) (cell_at old x y))
    (has_place-same r x y inside)
    ∙ ap (slice_get (joined (view rows (intersection r r).width (intersection r r).height scroll))) (place_of-same r x y)
    ∙ ap₂ (λ w h. slice_get (joined (view rows w h scroll)) (place_of r x y)) (same_length r.x r.width) (same_length r.y r.height)

view-none : (rows : List (List Grapheme)) (w h r : ℕ) → h ≡ 0 → view rows w h r ≡ []
unfolding view
view-none rows w zero r e = refl
view-none rows w (suc h) r e = absurd (omega arith)

shown_rows : (page : PageView) (old new : BufferView) (scroll : ℕ) → AllFit page.width page.lines → length new.cells ≡ new.area.height * new.area.width
    → (0 < new.area.height → page.width ≡ new.area.width)
    → ((x y : ℕ) → cell_at new x y ≡ cond (has_place (intersection new.area new.area) x y)
    (slice_get (joined (view (page_rows page) (intersection new.area new.area).width (intersection new.area new.area).height scroll))
    (place_of (intersection new.area new.area) x y)) (cell_at old x y))
    → buffer_rows new ≡ view (page_rows page) new.area.width new.area.height scroll
shown_rows page old new scroll fits full wide drawn = go new.area.height refl
  where
    go : (h : ℕ) → new.area.height ≡ h → buffer_rows new ≡ view (page_rows page) new.area.width new.area.height scroll
    go zero e = cell_rows-none new.area.width new.area.height new.cells e ∙ sym (view-none (page_rows page) new.area.width new.area.height scroll e)
    go (suc h) e =
        buffer_rows-view new (page_rows page) scroll full
        (subst (λ w. RowsTake w (page_rows page)) (wide (omega arith)) (RowsTake-rows_of page.width page.lines fits))
        (whole (page_rows page) new.area old new scroll drawn)

-- the rows of a buffer on all of which a page was drawn are the view of the page's rows
pub buffer_rows-drawn : (page : PageView) (area : Rect) (old new : BufferView) (scroll : ℕ) → AllFit page.width page.lines
    → length new.cells ≡ new.area.height * new.area.width → area ≡ old.area → new.area ≡ old.area → (0 < new.area.height → page.width ≡ new.area.width)
    → ((x y : ℕ) → cell_at new x y ≡ cond (has_place (intersection area old.area) x y)
    (slice_get (joined (view (page_rows page) (intersection area old.area).width (intersection area old.area).height scroll))
    (place_of (intersection area old.area) x y)) (cell_at old x y))
    → buffer_rows new ≡ view (page_rows page) new.area.width new.area.height scroll
buffer_rows-drawn page area old new scroll fits full same kept wide drawn =
    shown_rows page old new scroll fits full wide
    (λ x y. drawn x y ∙ ap₂ (λ r s. cond (has_place (intersection r s) x y)
    (slice_get (joined (view (page_rows page) (intersection r s).width (intersection r s).height scroll)) (place_of (intersection r s) x y))
    (cell_at old x y)) (same ∙ sym kept) (sym kept))
