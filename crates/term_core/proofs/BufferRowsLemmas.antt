-- The cells of a buffer as rows, and what they are after a drawing on all of it.
use Rattle.std.proofs.Common.{◌≡◌, ◌≢◌, ℕ, zero, suc, ◌+◌, ◌-◌, ◌*◌, ◌/◌, ◌%◌, ◌<◌, ◌≤◌, true, cond, get_or, List, [], ◌∷◌, ◌++◌, length, take, drop, Some, None, refl, sym, ap, ap₂, ◌∙◌, add-one, add-zero, arith, drop-cons, length-append}
use Rattle.std.specs.Prelude.{slice_get, unwrap_or}
use Rattle.std.proofs.Math.Seq.{take-append_seam, drop-append_seam}
use Rattle.std.proofs.lemmas.List.{drop-drop}
use Rattle.std.proofs.lemmas.Nat.{mod_below, div_below}
use Rattle.std.proofs.lemmas.Option.{slice_get-get_or}
use Rattle.term_text.specs.Graph.{Grapheme}
use Rattle.term_text.specs.Lists.{joined}
use Rattle.term_core.specs.Rect.{has_place, place_of}
use Rattle.term_core.specs.declared.rect.Rect.{Rect}
use Rattle.term_core.specs.Cells.{CellView, blank_cell, cells, view}
use Rattle.term_core.specs.Buffers.{BufferView, cell_at, cell_put}
use Rattle.term_core.specs.BufferRows.{area_rows, buffer_rows, cell_rows, row_from, rows_from}
use Rattle.term_core.proofs.BufferLemmas.{has_place-from, place_at}

pub cell_rows-none : (w h : ℕ) (cs : List CellView) → h ≡ 0 → cell_rows w h cs ≡ []
unfolding cell_rows
cell_rows-none w zero cs e = refl
cell_rows-none w (suc h) cs e = absurd (omega arith)

-- the row at a place, and those after it
pub cell_rows-step : (w h p : ℕ) (cs : List CellView) → h ≢ 0
    → cell_rows w h (drop p cs) ≡ take (p + w - p) (drop p cs) ∷ cell_rows w (h - 1) (drop (p + w) cs)
unfolding cell_rows
cell_rows-step w zero p cs some = absurd (some refl)
cell_rows-step w (suc h) p cs some =
    let wide : w ≡ p + w - p = omega arith in
    let fewer : h ≡ suc h - 1 = omega arith in
    ap (λ n. take n (drop p cs) ∷ cell_rows w h (drop w (drop p cs))) wide
    ∙ ap₂ (λ n rest. take (p + w - p) (drop p cs) ∷ cell_rows w n rest) fewer (drop-drop w p cs)

-- ---- a buffer that was drawn on all of it

-- two lists of one length with the same items are one
same_items : {A : Type 0} (xs ys : List A) → length xs ≡ length ys → ((k : ℕ) → k < length xs → slice_get xs k ≡ slice_get ys k) → xs ≡ ys
same_items [] [] e h = refl
same_items [] (y ∷ ys) e h = absurd (omega arith)
same_items (x ∷ xs) [] e h = absurd (omega arith)
same_items (x ∷ xs) (y ∷ ys) e h =
    let first : Some x ≡ Some y = h 0 (omega arith) in
    let rest : xs ≡ ys = same_items xs ys (omega arith) (λ k lt. h (suc k) (omega arith)) in cc

-- the cells of a buffer, where each place is told
pub cells_from_places : (b : BufferView) (all : List CellView) → length b.cells ≡ b.area.height * b.area.width → length all ≡ b.area.height * b.area.width
    → ((x y : ℕ) → has_place b.area x y ≡ true → cell_at b x y ≡ slice_get all (place_of b.area x y)) → b.cells ≡ all
cells_from_places b all full same told = same_items b.cells all (full ∙ sym same) at
  where
    at : (k : ℕ) → k < length b.cells → slice_get b.cells k ≡ slice_get all k
    at k lt =
        let r = b.area in
        let below : k < r.height * r.width = omega arith in
        let place = place_at r.x r.y r.width r.height k (r.x + k % r.width) (r.y + k / r.width) refl refl (across k r.width r.height below) (down k r.width r.height below) in
        ap (slice_get b.cells) (sym place.1)
        ∙ sym (ap (λ t. cond t (slice_get b.cells (place_of r (r.x + k % r.width) (r.y + k / r.width))) None) place.0)
        ∙ told (r.x + k % r.width) (r.y + k / r.width) place.0
        ∙ ap (slice_get all) place.1
      where
        some : (k w h : ℕ) → k < h * w → 0 < w
        some k zero h lt = absurd (omega arith)
        some k (suc w) h lt = omega arith

        across : (k w h : ℕ) → k < h * w → k % w < w
        across k w h lt = mod_below k w (some k w h lt)

        down : (k w h : ℕ) → k < h * w → k / w < h
        down k w h lt = div_below k w h (some k w h lt) lt

-- each row, or no graphemes after the last, takes w cells
abbrev pub RowsTake : ℕ → List (List Grapheme) → Type 0
RowsTake w rows = (k : ℕ) → length (cells (unwrap_or (slice_get rows k) []) w) ≡ w

length-view : (rows : List (List Grapheme)) (w h r : ℕ) → RowsTake w rows → length (joined (view rows w h r)) ≡ h * w
unfolding view
length-view rows w zero r wide = omega arith
length-view rows w (suc h) r wide =
    let first = wide r in
    let rest = length-view rows w h (r + 1) wide in
    omega (arith, length-append (cells (unwrap_or (slice_get rows r) []) w) (joined (view rows w h (r + 1))))

pub cell_rows-view : (rows : List (List Grapheme)) (w h r : ℕ) → RowsTake w rows → cell_rows w h (joined (view rows w h r)) ≡ view rows w h r
unfolding view cell_rows
cell_rows-view rows w zero r wide = refl
cell_rows-view rows w (suc h) r wide =
    let row = cells (unwrap_or (slice_get rows r) []) w in
    let rest = joined (view rows w h (r + 1)) in
    ap₂ (λ front back. front ∷ cell_rows w h back)
    (ap (λ n. take n (row ++ rest)) (sym (wide r)) ∙ take-append_seam row rest)
    (ap (λ n. drop n (row ++ rest)) (sym (wide r)) ∙ drop-append_seam row rest)
    ∙ ap (λ t. row ∷ t) (cell_rows-view rows w h (r + 1) wide)

-- the rows of a buffer whose cells are a view
pub buffer_rows-view : (b : BufferView) (rows : List (List Grapheme)) (r : ℕ) → length b.cells ≡ b.area.height * b.area.width → RowsTake b.area.width rows
    → ((x y : ℕ) → has_place b.area x y ≡ true → cell_at b x y ≡ slice_get (joined (view rows b.area.width b.area.height r)) (place_of b.area x y))
    → buffer_rows b ≡ view rows b.area.width b.area.height r
buffer_rows-view b rows r full wide told =
    let w = b.area.width in
    let h = b.area.height in
    ap (cell_rows w h) (cells_from_places b (joined (view rows w h r)) full (length-view rows w h r wide) told) ∙ cell_rows-view rows w h r wide

-- ---- the rows of a buffer on an area

-- the cells of a row are those of a list, from the number k on
row_from-told : (b : BufferView) (all : List CellView) (n x y k : ℕ) → k + n ≤ length all
    → ((i : ℕ) → i < n → cell_at b (x + i) y ≡ slice_get all (k + i)) → row_from b n x y ≡ take n (drop k all)
unfolding row_from
row_from-told b all zero x y k fits told = refl
row_from-told b all (suc n) x y k fits told =
    let lt : k < length all = omega arith in
    let first : cell_at b x y ≡ Some (get_or all k blank_cell) =
    ap (λ i. cell_at b i y) (sym (add-zero x)) ∙ told 0 (omega arith) ∙ ap (slice_get all) (add-zero k) ∙ slice_get-get_or all k blank_cell lt in
    let rest : row_from b n (x + 1) y ≡ take n (drop (k + 1) all) =
    row_from-told b all n (x + 1) y (k + 1) (omega arith) (λ i below.
    let across : (x + 1) + i ≡ x + suc i = omega arith in
    let next : k + suc i ≡ (k + 1) + i = omega arith in
    ap (λ j. cell_at b j y) across ∙ told (suc i) (omega arith) ∙ ap (slice_get all) next) in
    ap₂ (λ c cs. c ∷ cs) (ap (λ o. unwrap_or o blank_cell) first) rest
    ∙ sym (ap (take (suc n)) (drop-cons all k blank_cell lt ∙ ap (λ m. get_or all k blank_cell ∷ drop m all) (sym (add-one k))))

rows_from-told : (b : BufferView) (all : List CellView) (w h x y k : ℕ) → k + h * w ≤ length all
    → ((i j : ℕ) → i < w → j < h → cell_at b (x + i) (y + j) ≡ slice_get all (k + (j * w + i))) → rows_from b w h x y ≡ cell_rows w h (drop k all)
unfolding rows_from cell_rows
rows_from-told b all w zero x y k fits told = refl
rows_from-told b all w (suc h) x y k fits told =
    ap₂ (λ c cs. c ∷ cs)
    (row_from-told b all w x y k (omega arith) (λ i below.
    let here : k + (0 * w + i) ≡ k + i = omega arith in
    ap (λ j. cell_at b (x + i) j) (sym (add-zero y)) ∙ told i 0 below (omega arith) ∙ ap (slice_get all) here))
    (rows_from-told b all w h x (y + 1) (k + w) (omega arith) (λ i j left above.
    let down : (y + 1) + j ≡ y + suc j = omega arith in
    let next : k + (suc j * w + i) ≡ (k + w) + (j * w + i) = omega arith in
    ap (λ q. cell_at b (x + i) q) down ∙ told i (suc j) left (omega arith) ∙ ap (slice_get all) next)
    ∙ ap (cell_rows w h) (sym (drop-drop w k all)))

-- a buffer that has the cells of a list on an area has its rows there
pub area_rows-told : (b : BufferView) (r : Rect) (all : List CellView) → length all ≡ r.height * r.width
    → ((x y : ℕ) → has_place r x y ≡ true → cell_at b x y ≡ slice_get all (place_of r x y)) → area_rows b r ≡ cell_rows r.width r.height all
area_rows-told b r all full told =
    rows_from-told b all r.width r.height r.x r.y 0 (omega arith) (λ i j left above.
    told (r.x + i) (r.y + j) (has_place-from r.x r.y r.width r.height (r.x + i) (r.y + j) (omega arith) (omega arith) (omega arith) (omega arith))
    ∙ ap (slice_get all) (place r.x r.y r.width i j))
  where
    place : (rx ry w i j : ℕ) → ((ry + j) - ry) * w + ((rx + i) - rx) ≡ 0 + (j * w + i)
    place rx ry w i j =
        let down : (ry + j) - ry ≡ j = omega arith in
        let across : (rx + i) - rx ≡ i = omega arith in
        let whole : j * w + i ≡ 0 + (j * w + i) = omega arith in
        ap₂ (λ a c. a * w + c) down across ∙ whole

-- cells put on an area are its rows
pub area_rows-put : (b old : BufferView) (r : Rect) (all : List CellView) → length all ≡ r.height * r.width
    → ((x y : ℕ) → cell_at b x y ≡ cell_put r all old x y) → area_rows b r ≡ cell_rows r.width r.height all
area_rows-put b old r all full put =
    area_rows-told b r all full (λ x y inside. put x y ∙ ap (λ t. cond t (slice_get all (place_of r x y)) (cell_at old x y)) inside)
