-- Blocks: the cells of their borders and titles.
use Rattle.std.proofs.Common.{◌≡◌, ℕ, suc, ◌+◌, ◌-◌, ◌^◌, ◌<◌, ◌≤◌, Bool, true, false, cond, nat_le, nat_lt, ◌==◌, ◌||◌, ◌&&◌, List, [], ◌∷◌, length, Option, Some, None, refl, sym, ap, ap₂, ◌∙◌, arith}
use Rattle.std.specs.Prelude.{slice_get, option_map, encode_utf8}
use Rattle.std.proofs.lemmas.Bool.{and_parts}
use Rattle.std.proofs.lemmas.Bool.Decides.{nat_tests}
use Rattle.term_core.specs.declared.caption.Stroke.{Stroke}
use Rattle.term_core.specs.declared.rect.Rect.{Rect}
use Rattle.term_core.specs.Buffers.{BufferView, cell_at, IsWithin}
use Rattle.term_core.specs.Caption.{struck, strokes, captioned}
use Rattle.term_core.specs.Cells.{CellView}
use Rattle.term_core.specs.Rect.{has_place, is_empty}
use Rattle.term_core.specs.Text.{LineView}
use Rattle.term_core.proofs.BufferLemmas.{IsIn, IsIn-from, has_place-from}
use Rattle.term_core.proofs.CaptionLemmas.{slice_get-past, option_map-struck_none}
use Rattle.term_widgets.specs.Block.{BlockView, edge_symbol, border_symbol, with_symbol, bordered, title_graphs, title_start, title_room, titled, block_cell, inner_of, within_borders, below_title}
use Rattle.term_widgets.proofs.AreaLemmas.{some_columns, some_rows}
use Rattle.term_widgets.proofs.ChangeLemmas.{in_stretch}

-- ---- a stretch of a row or of a column has a symbol

abbrev pub symbol_set : ℕ → ℕ → ℕ → CellView → CellView
symbol_set c p q = with_symbol (Some c)

pub row_here : (a at y p q : ℕ) → a ≤ at → ((p == at) && (q == y)) ≡ true → ((in_stretch a at p && (q == y)) ≡ false) × ((in_stretch a (at + 1) p && (q == y)) ≡ true)
row_here a at y p q h e = (grind (arith, nat_tests), grind (arith, nat_tests))

pub row_apart : (a at y p q : ℕ) → ((p == at) && (q == y)) ≡ false → (in_stretch a at p && (q == y)) ≡ (in_stretch a (at + 1) p && (q == y))
row_apart a at y p q e = grind (arith, nat_tests)

pub column_here : (a at x p q : ℕ) → a ≤ at → ((p == x) && (q == at)) ≡ true → (((p == x) && in_stretch a at q) ≡ false) × (((p == x) && in_stretch a (at + 1) q) ≡ true)
column_here a at x p q h e = (grind (arith, nat_tests), grind (arith, nat_tests))

pub column_apart : (a at x p q : ℕ) → ((p == x) && (q == at)) ≡ false → ((p == x) && in_stretch a at q) ≡ ((p == x) && in_stretch a (at + 1) q)
column_apart a at x p q e = grind (arith, nat_tests)

pub row_begins : (a y p q : ℕ) → (in_stretch a a p && (q == y)) ≡ false
row_begins a y p q = grind (arith, nat_tests)

pub column_begins : (a x p q : ℕ) → ((p == x) && in_stretch a a q) ≡ false
column_begins a x p q = grind (arith, nat_tests)

-- ---- the borders

cond_same : {A : Type 0} (b : Bool) (x : A) → cond b x x ≡ x
cond_same true x = refl
cond_same false x = refl

-- the eight steps of a drawing, where each corner and edge is known by its tests
abbrev pub step : ℕ → Bool → Option CellView → Option CellView
step c t o = cond t (option_map (with_symbol (Some c)) o) o

abbrev pub drawn : (h v l r t b : Bool) → Option CellView → Option CellView
drawn h v l r t b o =
    step 0x2518 (r && b) (step 0x2514 (l && b) (step 0x2510 (r && t) (step 0x250C (l && t)
    (step 0x2502 (r && v) (step 0x2502 (l && v) (step 0x2500 (h && b) (step 0x2500 (h && t) o)))))))

drawn_within : (l r t b : Bool) (o : Option CellView) → drawn true true l r t b o ≡ option_map (with_symbol (edge_symbol l r t b)) o
drawn_within true true true true None = refl
drawn_within true true true true (Some c) = refl
drawn_within true true true false None = refl
drawn_within true true true false (Some c) = refl
drawn_within true true false true None = refl
drawn_within true true false true (Some c) = refl
drawn_within true true false false None = refl
drawn_within true true false false (Some c) = refl
drawn_within true false true true None = refl
drawn_within true false true true (Some c) = refl
drawn_within true false true false None = refl
drawn_within true false true false (Some c) = refl
drawn_within true false false true None = refl
drawn_within true false false true (Some c) = refl
drawn_within true false false false None = refl
drawn_within true false false false (Some c) = refl
drawn_within false true true true None = refl
drawn_within false true true true (Some c) = refl
drawn_within false true true false None = refl
drawn_within false true true false (Some c) = refl
drawn_within false true false true None = refl
drawn_within false true false true (Some c) = refl
drawn_within false true false false None = refl
drawn_within false true false false (Some c) = refl
drawn_within false false true true None = refl
drawn_within false false true true (Some c) = refl
drawn_within false false true false None = refl
drawn_within false false true false (Some c) = refl
drawn_within false false false true None = refl
drawn_within false false false true (Some c) = refl
drawn_within false false false false None = refl
drawn_within false false false false (Some c) = refl

drawn_outside : (h v l r t b : Bool) (o : Option CellView) → (h && v) ≡ false → (h ≡ false → (l ≡ false) × (r ≡ false)) → (v ≡ false → (t ≡ false) × (b ≡ false))
    → drawn h v l r t b o ≡ o
drawn_outside true true l r t b o e across down = cc
drawn_outside true false l r t b o e across down =
    let none = down refl in
    ap₂ (λ t b. drawn true false l r t b o) none.0 none.1 ∙ rows l r
  where
    rows : (l r : Bool) → drawn true false l r false false o ≡ o
    rows true true = refl
    rows true false = refl
    rows false true = refl
    rows false false = refl
drawn_outside false v l r t b o e across down =
    let none = across refl in
    ap₂ (λ l r. drawn false v l r t b o) none.0 none.1

module _ (r : Rect) (p q right bottom : ℕ) (o : Option CellView) (some : is_empty r ≡ false) (ex : right + 1 ≡ r.x + r.width) (ey : bottom + 1 ≡ r.y + r.height) where
  same_end : (p m n : ℕ) → m + 1 ≡ n → (p == m) ≡ (p + 1 == n)
  same_end p m n e = grind (arith, nat_tests)

  same_stretch : (a m n p : ℕ) → m + 1 ≡ n → in_stretch a (m + 1) p ≡ in_stretch a n p
  same_stretch a m n p e = ap (λ k. in_stretch a k p) e

  off_stretch : (a m p : ℕ) → a ≤ m → in_stretch a (m + 1) p ≡ false → ((p == a) ≡ false) × ((p == m) ≡ false)
  off_stretch a m p h e = (grind (arith, nat_tests), grind (arith, nat_tests))

  has_stretches : has_place r p q ≡ (in_stretch r.x (right + 1) p && in_stretch r.y (bottom + 1) q)
  has_stretches = sym (ap₂ (λ a b. a && b) (same_stretch r.x right (r.x + r.width) p ex) (same_stretch r.y bottom (r.y + r.height) q ey))

  pub borders-drawn : drawn (in_stretch r.x (right + 1) p) (in_stretch r.y (bottom + 1) q) (p == r.x) (p == right) (q == r.y) (q == bottom) o
      ≡ cond (has_place r p q) (option_map (with_symbol (border_symbol r p q)) o) o
  borders-drawn = go (in_stretch r.x (right + 1) p) (in_stretch r.y (bottom + 1) q) refl refl
    where
      wide : r.x ≤ right
      wide = let w = some_columns r.width r.height some in omega arith

      high : r.y ≤ bottom
      high = let h = some_rows r.width r.height some in omega arith

      symbol_is : edge_symbol (p == r.x) (p == right) (q == r.y) (q == bottom) ≡ border_symbol r p q
      symbol_is =
          ap₂ (λ a b. edge_symbol (p == r.x) a (q == r.y) b) (same_end p right (r.x + r.width) ex) (same_end q bottom (r.y + r.height) ey)

      off : in_stretch r.x (right + 1) p && in_stretch r.y (bottom + 1) q ≡ false
          → drawn (in_stretch r.x (right + 1) p) (in_stretch r.y (bottom + 1) q) (p == r.x) (p == right) (q == r.y) (q == bottom) o
          ≡ cond (has_place r p q) (option_map (with_symbol (border_symbol r p q)) o) o
      off e =
          drawn_outside (in_stretch r.x (right + 1) p) (in_stretch r.y (bottom + 1) q) (p == r.x) (p == right) (q == r.y) (q == bottom) o
          e (off_stretch r.x right p wide) (off_stretch r.y bottom q high)
          ∙ sym (ap (λ t. cond t (option_map (with_symbol (border_symbol r p q)) o) o) (has_stretches ∙ e))

      go : (h v : Bool) → in_stretch r.x (right + 1) p ≡ h → in_stretch r.y (bottom + 1) q ≡ v
          → drawn (in_stretch r.x (right + 1) p) (in_stretch r.y (bottom + 1) q) (p == r.x) (p == right) (q == r.y) (q == bottom) o
          ≡ cond (has_place r p q) (option_map (with_symbol (border_symbol r p q)) o) o
      go true true e f =
          ap₂ (λ h v. drawn h v (p == r.x) (p == right) (q == r.y) (q == bottom) o) e f
          ∙ drawn_within (p == r.x) (p == right) (q == r.y) (q == bottom) o
          ∙ ap (λ s. option_map (with_symbol s) o) symbol_is
          ∙ sym (ap (λ t. cond t (option_map (with_symbol (border_symbol r p q)) o) o) (has_stretches ∙ ap₂ (λ h v. h && v) e f))
      go true false e f = off (ap₂ (λ h v. h && v) e f)
      go false v e f = off (ap (λ h. h && in_stretch r.y (bottom + 1) q) e)

pub place_within : (r s now : Rect) → IsWithin r s → now ≡ s → (p q : ℕ) → r.x ≤ p → p < r.x + r.width → r.y ≤ q → q < r.y + r.height → has_place now p q ≡ true
place_within r s now within e p q a b c d =
    ap (λ t. has_place t p q) e ∙ within p q (has_place-from r.x r.y r.width r.height p q a b c d)

-- the borders, by the tests on the outermost columns and rows
pub borders-at : (r : Rect) (p q left right top bottom : ℕ) (o : Option CellView) → is_empty r ≡ false → left ≡ r.x → top ≡ r.y
    → right + 1 ≡ r.x + r.width → bottom + 1 ≡ r.y + r.height
    → drawn (in_stretch left (right + 1) p) (in_stretch top (bottom + 1) q) (p == left) (p == right) (q == top) (q == bottom) o
    ≡ cond (has_place r p q) (option_map (with_symbol (border_symbol r p q)) o) o
borders-at r p q left right top bottom o some el et er eb =
    ap₂ (λ l t. drawn (in_stretch l (right + 1) p) (in_stretch t (bottom + 1) q) (p == l) (p == right) (q == t) (q == bottom) o) el et
    ∙ borders-drawn r p q right bottom o some er eb

-- ---- the title over the borders

-- the cells after the columns of the title are past its end
past_title : (d : Bool) (x y w h p q : ℕ) → 0 < h → ((nat_le x p && nat_lt p (x + w)) && (nat_le y q && nat_lt q (y + h))) ≡ false
    → ((q == y) && nat_le (cond d (x + 1) x) p) ≡ true → cond d (w - 2) w ≤ p - cond d (x + 1) x
past_title true x y w h p q some off at = grind (arith, nat_tests)
past_title false x y w h p q some off at = grind (arith, nat_tests)

over : (t : Bool) (f g : CellView → CellView) (o : Option CellView)
    → cond t (option_map f (option_map g o)) (option_map g o) ≡ option_map (λ c. cond t (f (g c)) (g c)) o
over true f g None = refl
over true f g (Some c) = refl
over false f g None = refl
over false f g (Some c) = refl

module _ (b : BlockView) (r : Rect) (title : List Stroke) (old mid new : BufferView) where
  pub block-drawn : is_empty r ≡ false → title ≡ strokes (title_graphs b.title (title_room b r)) → length title ≤ title_room b r
      → ((p q : ℕ) → cell_at mid p q ≡ cond (has_place r p q) (option_map (bordered b r p q) (cell_at old p q)) (cell_at old p q))
      → ((p q : ℕ) → cell_at new p q
      ≡ cond ((q == r.y) && nat_le (title_start b r) p) (option_map (struck (slice_get title (p - title_start b r))) (cell_at mid p q)) (cell_at mid p q))
      → (p q : ℕ) → cell_at new p q ≡ cond (has_place r p q) (option_map (block_cell b r p q) (cell_at old p q)) (cell_at old p q)
  block-drawn some is fits edge set p q = set p q ∙ go (has_place r p q) refl (edge p q)
    where
      k : ℕ
      k = p - title_start b r

      off : (t : Bool) → ((q == r.y) && nat_le (title_start b r) p) ≡ t → has_place r p q ≡ false
          → cond t (option_map (struck (slice_get title (p - title_start b r))) (cell_at old p q)) (cell_at old p q) ≡ cell_at old p q
      off false e f = refl
      off true e f =
          let rows = some_rows r.width r.height some in
          let past = past_title b.bordered r.x r.y r.width r.height p q rows f e in
          ap (λ s. option_map (struck s) (cell_at old p q)) (slice_get-past title (p - title_start b r) (omega arith))
          ∙ option_map-struck_none (cell_at old p q)

      go : (d : Bool) → has_place r p q ≡ d → cell_at mid p q ≡ cond d (option_map (bordered b r p q) (cell_at old p q)) (cell_at old p q)
          → cond ((q == r.y) && nat_le (title_start b r) p) (option_map (struck (slice_get title (p - title_start b r))) (cell_at mid p q)) (cell_at mid p q)
          ≡ cond d (option_map (block_cell b r p q) (cell_at old p q)) (cell_at old p q)
      go true e i =
          ap (λ m. cond ((q == r.y) && nat_le (title_start b r) p) (option_map (struck (slice_get title (p - title_start b r))) m) m) i
          ∙ over ((q == r.y) && nat_le (title_start b r) p) (struck (slice_get title (p - title_start b r))) (bordered b r p q) (cell_at old p q)
          ∙ ap (λ ts. option_map (λ c. cond ((q == r.y) && nat_le (title_start b r) p) (struck (slice_get ts (p - title_start b r)) (bordered b r p q c)) (bordered b r p q c)) (cell_at old p q)) is
      go false e i =
          ap (λ m. cond ((q == r.y) && nat_le (title_start b r) p) (option_map (struck (slice_get title (p - title_start b r))) m) m) i
          ∙ off ((q == r.y) && nat_le (title_start b r) p) refl e

-- the columns of the title lie in the area
pub title_inside : (d : Bool) (r : Rect) (i : ℕ) → is_empty r ≡ false → i < cond d (r.width - 2) r.width
    → has_place r (cond d (r.x + 1) r.x + i) r.y ≡ true
title_inside true r i some lt =
    let h = some_rows r.width r.height some in
    has_place-from r.x r.y r.width r.height (r.x + 1 + i) r.y (omega arith) (omega arith) (omega arith) (omega arith)
title_inside false r i some lt =
    let h = some_rows r.width r.height some in
    has_place-from r.x r.y r.width r.height (r.x + i) r.y (omega arith) (omega arith) (omega arith) (omega arith)

-- ---- the inner area

not_at : (a b : ℕ) → b < a → (a == b) ≡ false
not_at a b h = grind (arith, nat_tests)

not_end : (a b : ℕ) → a < b → (a == b) ≡ false
not_end a b h = grind (arith, nat_tests)

and_no : (a b : Bool) → a ≡ false → (a && b) ≡ false
and_no a b e = ap (λ t. t && b) e

inner_cell : (d : Bool) (t : Option LineView) (r : Rect) (x y : ℕ) (c : CellView) → has_place (inner_of (record { bordered = d; title = t }) r) x y ≡ true
    → block_cell (record { bordered = d; title = t }) r x y c ≡ c
unfolding strokes
inner_cell true t r x y c h =
    let i = IsIn-from (within_borders r).x (within_borders r).y (within_borders r).width (within_borders r).height x y h in
    let il = i.left in let ir = i.right in let it = i.top in let ib = i.bottom in
    ap (λ s. titled (record { bordered = true; title = t }) r x y (with_symbol s c))
    (ap₂ (λ a b. edge_symbol a b (y == r.y) (y + 1 == r.y + r.height)) (not_at x r.x (omega arith)) (not_end (x + 1) (r.x + r.width) (omega arith))
    ∙ ap₂ (λ a b. edge_symbol false false a b) (not_at y r.y (omega arith)) (not_end (y + 1) (r.y + r.height) (omega arith)))
    ∙ ap (λ u. cond u (captioned (title_graphs t (r.width - 2)) (x - (r.x + 1)) c) c) (and_no (y == r.y) (nat_le (r.x + 1) x) (not_at y r.y (omega arith)))
inner_cell false (Some title) r x y c h =
    let i = IsIn-from (below_title r).x (below_title r).y (below_title r).width (below_title r).height x y h in
    let it = i.top in let ib = i.bottom in
    ap (λ u. cond u (captioned (title_graphs (Some title) r.width) (x - r.x) c) c) (and_no (y == r.y) (nat_le r.x x) (not_at y r.y (omega arith)))
inner_cell false None r x y c h = cond_same ((y == r.y) && nat_le r.x x) c

pub block_cell-inner : (b : BlockView) (r : Rect) (x y : ℕ) (c : CellView) → has_place (inner_of b r) x y ≡ true → block_cell b r x y c ≡ c
block_cell-inner b r x y c h = inner_cell b.bordered b.title r x y c h

inner_within : (d : Bool) (t : Option LineView) (r : Rect) → IsWithin (inner_of (record { bordered = d; title = t }) r) r
inner_within true t r x y h =
    let i = IsIn-from (within_borders r).x (within_borders r).y (within_borders r).width (within_borders r).height x y h in
    let il = i.left in let ir = i.right in let it = i.top in let ib = i.bottom in
    has_place-from r.x r.y r.width r.height x y (omega arith) (omega arith) (omega arith) (omega arith)
inner_within false (Some title) r x y h =
    let i = IsIn-from (below_title r).x (below_title r).y (below_title r).width (below_title r).height x y h in
    let il = i.left in let ir = i.right in let it = i.top in let ib = i.bottom in
    has_place-from r.x r.y r.width r.height x y (omega arith) (omega arith) (omega arith) (omega arith)
inner_within false None r x y h = h

pub IsWithin-inner : (b : BlockView) (r : Rect) → IsWithin (inner_of b r) r
IsWithin-inner b r = inner_within b.bordered b.title r
