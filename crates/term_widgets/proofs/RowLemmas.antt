-- Steps over rows and their cells.
use Rattle.std.proofs.Common.{◌≡◌, ℕ, zero, suc, ◌+◌, ◌-◌, ◌*◌, ◌<◌, ◌≤◌, List, [], ◌∷◌, ◌++◌, length, drop, replicate, Option, Some, None, refl, sym, ap, ap₂, subst, ◌∙◌, arith, append_assoc, append-nil, add-zero, add-one, add_assoc}
use Rattle.std.specs.List.{AllByRecursion}
use Rattle.std.specs.Prelude.{slice_get, unwrap_or, option_map, MatchOption}
use Rattle.std.proofs.lemmas.List.Elements.{recursion_from_All}
use Rattle.term_text.specs.declared.cutter.RowGraphemes.{RowGraphemes}
use Rattle.term_text.specs.declared.cutter.Row.{Row}
use Rattle.term_core.specs.Cells.{CellView, row_cells, cells, cell_of, blank_cell, view}
use Rattle.term_core.specs.Graph.{Grapheme, columns, graphs}
use Rattle.term_core.specs.LineIter.{line_left}
use Rattle.term_core.specs.Lists.{joined}
use Rattle.term_core.specs.Rows.{row_left, row_graphs}
use Rattle.term_core.specs.Text.{LineView}
use Rattle.term_core.specs.Wrap.{NoneWider, wrap}
use Rattle.term_core.proofs.ShownLemmas.{AllShown-take}
use Rattle.term_text.proofs.CutLemmas.{AllShown, AllShown-line_left}
use Rattle.term_text.proofs.LineLemmas.{drop_step, drop_done}
use Rattle.term_text.proofs.RowLemmas.{AllNarrow-wrap}
use Rattle.term_widgets.specs.Page.{rows_of, AllFit}
use Rattle.term_widgets.proofs.LineLemmas.{AllFit-cons}

-- ---- the cells of one row

pub AllShown-row_left : (s : RowGraphemes) → AllShown (row_left s)
unfolding row_left
AllShown-row_left s = AllShown-take s.len (line_left s.graphs) (AllShown-line_left s.graphs)

pub AllShown-row_graphs : (s : Row) → AllShown (row_graphs s)
unfolding row_graphs
AllShown-row_graphs s = AllShown-take s.len (line_left s.graphs) (AllShown-line_left s.graphs)

pub row_cells-step : (before after : List CellView) (g : Grapheme) (rest : List Grapheme) → after ≡ (before ++ cell_of g ∷ []) ++ replicate (g.width - 1) blank_cell
    → after ++ row_cells rest ≡ before ++ row_cells (g ∷ rest)
unfolding row_cells
row_cells-step before after g rest e = rw e (simp append_assoc)

pub cells-nil : (w : ℕ) → cells [] w ≡ replicate w blank_cell
unfolding row_cells
cells-nil w = let all : w - 0 ≡ w = omega arith in ap (λ n. replicate n blank_cell) all

-- ---- views

view-suc : (rows : List (List Grapheme)) (w i r : ℕ) → view rows w (suc i) r ≡ view rows w i r ++ cells (unwrap_or (slice_get rows (r + i)) []) w ∷ []
unfolding view
view-suc rows w zero r = ap (λ k. cells (unwrap_or (slice_get rows k) []) w ∷ []) (sym (add-zero r))
view-suc rows w (suc i) r =
    let next : (r + 1) + i ≡ r + suc i = omega arith in
    ap (λ t. cells (unwrap_or (slice_get rows r) []) w ∷ t) (view-suc rows w i (r + 1)
    ∙ ap (λ k. view rows w i (r + 1) ++ cells (unwrap_or (slice_get rows k) []) w ∷ []) next)

view-more : (rows : List (List Grapheme)) (w i r : ℕ) → view rows w (i + 1) r ≡ view rows w i r ++ cells (unwrap_or (slice_get rows (r + i)) []) w ∷ []
view-more rows w i r = rw add-one (view-suc rows w i r)

pub joined-append : {A : Type 0} (xs ys : List (List A)) → joined (xs ++ ys) ≡ joined xs ++ joined ys
joined-append [] ys = refl
joined-append (x ∷ xs) ys = ap (λ t. x ++ t) (joined-append xs ys) ∙ sym (append_assoc x (joined xs) (joined ys))

-- one row more of a view, as cells
pub view-push : (rows : List (List Grapheme)) (w i r : ℕ) (row : List Grapheme) (before after : List CellView)
    → before ≡ joined (view rows w i r) → after ≡ before ++ cells row w → unwrap_or (slice_get rows (r + i)) [] ≡ row → after ≡ joined (view rows w (i + 1) r)
view-push rows w i r row before after e f at =
    f ∙ ap₂ (λ b x. b ++ cells x w) e (sym at)
    ∙ sym (ap joined (view-more rows w i r) ∙ joined-append (view rows w i r) _ ∙ ap (λ t. joined (view rows w i r) ++ t) (append-nil (cells (unwrap_or (slice_get rows (r + i)) []) w)))

-- a row of a view
pub slice_get-view : (rows : List (List Grapheme)) (w h r i : ℕ) → i < h → slice_get (view rows w h r) i ≡ Some (cells (unwrap_or (slice_get rows (r + i)) []) w)
unfolding view
slice_get-view rows w zero r i lt = absurd (omega arith)
slice_get-view rows w (suc h) r zero lt = ap (λ k. Some (cells (unwrap_or (slice_get rows k) []) w)) (sym (add-zero r))
slice_get-view rows w (suc h) r (suc i) lt =
    let next : (r + 1) + i ≡ r + suc i = omega arith in
    slice_get-view rows w h (r + 1) i (omega arith) ∙ ap (λ k. Some (cells (unwrap_or (slice_get rows k) []) w)) next

pub views_agree : (rows : List (List Grapheme)) (w h k r s i j : ℕ) → i < h → j < k → r + i ≡ s + j → slice_get (view rows w h r) i ≡ slice_get (view rows w k s) j
views_agree rows w h k r s i j a b e =
    slice_get-view rows w h r i a ∙ ap (λ n. Some (cells (unwrap_or (slice_get rows n) []) w)) e ∙ sym (slice_get-view rows w k s j b)

-- ---- a row at the front of those that are left

pub slice_get-drop_head : {A : Type 0} (n : ℕ) (xs rest : List A) (x : A) → drop n xs ≡ x ∷ rest → slice_get xs n ≡ Some x
slice_get-drop_head zero [] rest x e = cc
slice_get-drop_head zero (y ∷ ys) rest x e = cc
slice_get-drop_head (suc n) [] rest x e = cc
slice_get-drop_head (suc n) (y ∷ ys) rest x e = slice_get-drop_head n ys rest x e

slice_get-drop_none : {A : Type 0} (n : ℕ) (xs : List A) → drop n xs ≡ [] → slice_get xs n ≡ None
slice_get-drop_none zero [] e = refl
slice_get-drop_none zero (y ∷ ys) e = cc
slice_get-drop_none (suc n) [] e = refl
slice_get-drop_none (suc n) (y ∷ ys) e = slice_get-drop_none n ys e

row_at-some : (rows rest : List (List Grapheme)) (row : List Grapheme) (n : ℕ) → drop n rows ≡ row ∷ rest → unwrap_or (slice_get rows n) [] ≡ row
row_at-some rows rest row n e = ap (λ o. unwrap_or o []) (slice_get-drop_head n rows rest row e)

row_at-none : (rows : List (List Grapheme)) (n : ℕ) → drop n rows ≡ [] → unwrap_or (slice_get rows n) [] ≡ []
row_at-none rows n e = ap (λ o. unwrap_or o []) (slice_get-drop_none n rows e)

-- each row is at most w wide, by recursion
abbrev pub Narrows : ℕ → List (List Grapheme) → Type 0
Narrows w rows = AllByRecursion (λ row. columns row ≤ w) rows

narrows-append : (w : ℕ) (xs ys : List (List Grapheme)) → Narrows w xs → Narrows w ys → Narrows w (xs ++ ys)
narrows-append w [] ys p q = q
narrows-append w (x ∷ xs) ys p q = (p.0, narrows-append w xs ys p.1 q)

narrows-wrap : (w : ℕ) (gs : List Grapheme) → NoneWider w gs → Narrows w (wrap w gs)
narrows-wrap w gs ok = recursion_from_All (λ row. columns row ≤ w) (wrap w gs) (AllNarrow-wrap w gs ok)

pub narrows-rows_of : (w : ℕ) (lines : List LineView) → AllFit w lines → Narrows w (rows_of w lines)
unfolding rows_of
narrows-rows_of w [] e = tt
narrows-rows_of w (line ∷ lines) e =
    let parts = AllFit-cons w line lines e in
    narrows-append w (wrap w (graphs line)) (rows_of w lines) (narrows-wrap w (graphs line) parts.0) (narrows-rows_of w lines parts.1)

pub narrows-drop : (w n : ℕ) (rows : List (List Grapheme)) → Narrows w rows → Narrows w (drop n rows)
narrows-drop w zero rows h = h
narrows-drop w (suc n) [] h = tt
narrows-drop w (suc n) (row ∷ rows) h = narrows-drop w n rows h.1

-- what a call of `next_row` says of the rows that are left
pub record NextRow (w : ℕ) (rows : List (List Grapheme)) (n : ℕ) (left after : List (List Grapheme)) (o : Option Row) : Type 0 where
  pub rest : after ≡ drop (n + 1) rows
  pub row : unwrap_or (slice_get rows n) [] ≡ unwrap_or (option_map row_graphs o) []
  pub narrow : Narrows w after

pub next_row_says : (w : ℕ) (rows : List (List Grapheme)) (n : ℕ) (left after : List (List Grapheme)) (o : Option Row)
    → MatchOption o ((left ≡ []) × (after ≡ [])) (λ x. left ≡ row_graphs x ∷ after) → left ≡ drop n rows → Narrows w left → NextRow w rows n left after o
next_row_says w rows n left after None h e k =
    record {
      rest = h.1 ∙ sym (drop_done n (n + 1) rows (omega arith) (sym e ∙ h.0));
      row = row_at-none rows n (sym e ∙ h.0);
      narrow = subst (Narrows w) (sym h.1) tt;
    }
next_row_says w rows n left after (Some x) h e k =
    record {
      rest = sym (drop_step n rows after (row_graphs x) (sym e ∙ h));
      row = row_at-some rows after (row_graphs x) n (sym e ∙ h);
      narrow = (subst (Narrows w) h k).1;
    }

-- i rows from the row r on are made, and those after them are left
pub record Drawn (w : ℕ) (rows : List (List Grapheme)) (r i : ℕ) (left : List (List Grapheme)) (made : List CellView) : Type 0 where
  pub rest : left ≡ drop (r + i) rows
  pub cells : made ≡ joined (view rows w i r)
  pub len : length made ≡ i * w
  pub narrow : Narrows w left

pub Drawn-none : (w : ℕ) (rows : List (List Grapheme)) (r : ℕ) (left : List (List Grapheme)) (made : List CellView) → Narrows w rows → left ≡ drop r rows → made ≡ []
    → Drawn w rows r 0 left made
unfolding view
Drawn-none w rows r left made narrow rest none =
    record {
      rest = rest ∙ ap (λ n. drop n rows) (sym (add-zero r));
      cells = none;
      len = ap length none ∙ omega arith;
      narrow = subst (Narrows w) (sym rest) (narrows-drop w r rows narrow);
    }

-- one row more, or blank cells after the last
pub Drawn-more : (w : ℕ) (rows : List (List Grapheme)) (r i : ℕ) (left after : List (List Grapheme)) (o : Option Row) (made more : List CellView)
    → Drawn w rows r i left made → MatchOption o ((left ≡ []) × (after ≡ [])) (λ x. left ≡ row_graphs x ∷ after)
    → more ≡ made ++ cells (unwrap_or (option_map row_graphs o) []) w → length more ≡ length made + w → Drawn w rows r (i + 1) after more
Drawn-more w rows r i left after o made more drawn next items len =
    let says = next_row_says w rows (r + i) left after o next drawn.rest drawn.narrow in
    let before = drawn.len in
    record {
      rest = says.rest ∙ ap (λ n. drop n rows) (add_assoc r i 1);
      cells = view-push rows w i r (unwrap_or (option_map row_graphs o) []) made more drawn.cells items says.row;
      len = omega arith;
      narrow = says.narrow;
    }
