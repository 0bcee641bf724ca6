-- Rows of a page take its columns, so a cell of a view is known by its row and its column.
use Rattle.std.proofs.Common.{◌≡◌, ℕ, zero, suc, ◌+◌, ◌*◌, ◌<◌, List, [], ◌∷◌, ◌++◌, length, sym, ap, refl, ◌∙◌, arith, add-zero}
use Rattle.std.specs.List.{All, AllByRecursion}
use Rattle.std.specs.Prelude.{slice_get, unwrap_or}
use Rattle.std.proofs.lemmas.List.Elements.{All-from_recursion}
use Rattle.term_core.specs.Cells.{cells, view}
use Rattle.term_core.specs.Graph.{Grapheme}
use Rattle.term_core.specs.Lists.{joined}
use Rattle.term_core.specs.Text.{LineView}
use Rattle.term_core.proofs.BufferRowsLemmas.{RowsTake}
use Rattle.term_core.proofs.CellLemmas.{length-cells}
use Rattle.term_core.proofs.ShownLemmas.{RowsShown}
use Rattle.term_widgets.specs.Page.{rows_of, AllFit}
use Rattle.term_widgets.proofs.PageLemmas.{RowsShown-rows_of, RowsTake-rows_of}
use Rattle.term_widgets.proofs.RowLemmas.{Narrows, narrows-rows_of}

takes : (w : ℕ) (rows : List (List Grapheme)) → Narrows w rows → RowsShown rows → AllByRecursion (λ row. length (cells row w) ≡ w) rows
takes w [] p q = tt
takes w (row ∷ rows) p q = (length-cells row w q.0 p.0, takes w rows p.1 q.1)

pub rows_of-take : (w : ℕ) (lines : List LineView) → AllFit w lines → All (λ row. length (cells row w) ≡ w) (rows_of w lines)
rows_of-take w lines fits =
    All-from_recursion (λ row. length (cells row w) ≡ w) (rows_of w lines) (takes w (rows_of w lines) (narrows-rows_of w lines fits) (RowsShown-rows_of w lines))

-- ---- an item of two lists, one behind the other

slice_get-front : {A : Type 0} (xs ys : List A) (k : ℕ) → k < length xs → slice_get (xs ++ ys) k ≡ slice_get xs k
slice_get-front [] ys k lt = absurd (omega arith)
slice_get-front (x ∷ xs) ys zero lt = refl
slice_get-front (x ∷ xs) ys (suc k) lt = slice_get-front xs ys k (omega arith)

slice_get-behind : {A : Type 0} (xs ys : List A) (k m : ℕ) → k ≡ length xs + m → slice_get (xs ++ ys) k ≡ slice_get ys m
slice_get-behind [] ys k m e = ap (slice_get ys) (omega arith)
slice_get-behind (x ∷ xs) ys zero m e = absurd (omega arith)
slice_get-behind (x ∷ xs) ys (suc k) m e = slice_get-behind xs ys k m (omega arith)

-- a cell of a view
slice_get-cell : (rows : List (List Grapheme)) (w h r i x : ℕ) → RowsTake w rows → i < h → x < w
    → slice_get (joined (view rows w h r)) (i * w + x) ≡ slice_get (cells (unwrap_or (slice_get rows (r + i)) []) w) x
unfolding view
slice_get-cell rows w zero r i x wide lt left = absurd (omega arith)
slice_get-cell rows w (suc h) r zero x wide lt left =
    let len = wide r in
    let here : 0 * w + x ≡ x = omega arith in
    ap (slice_get (joined (view rows w (suc h) r))) here
    ∙ slice_get-front (cells (unwrap_or (slice_get rows r) []) w) (joined (view rows w h (r + 1))) x (omega arith)
    ∙ ap (λ k. slice_get (cells (unwrap_or (slice_get rows k) []) w) x) (sym (add-zero r))
slice_get-cell rows w (suc h) r (suc i) x wide lt left =
    let len = wide r in
    let next : (r + 1) + i ≡ r + suc i = omega arith in
    slice_get-behind (cells (unwrap_or (slice_get rows r) []) w) (joined (view rows w h (r + 1))) (suc i * w + x) (i * w + x) (omega arith)
    ∙ slice_get-cell rows w h (r + 1) i x wide (omega arith) left
    ∙ ap (λ k. slice_get (cells (unwrap_or (slice_get rows k) []) w) x) next

pub cells_agree : (w : ℕ) (lines : List LineView) (h k r s i j x : ℕ) → AllFit w lines → i < h → j < k → r + i ≡ s + j → x < w
    → slice_get (joined (view (rows_of w lines) w h r)) (i * w + x) ≡ slice_get (joined (view (rows_of w lines) w k s)) (j * w + x)
cells_agree w lines h k r s i j x fits a b e left =
    let wide = RowsTake-rows_of w lines fits in
    slice_get-cell (rows_of w lines) w h r i x wide a left
    ∙ ap (λ n. slice_get (cells (unwrap_or (slice_get (rows_of w lines) n) []) w) x) e
    ∙ sym (slice_get-cell (rows_of w lines) w k s j x wide b left)
