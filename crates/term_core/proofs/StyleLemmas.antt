-- What a buffer has after styles are set.
use Rattle.std.proofs.Common.{◌≡◌, ◌≢◌, ℕ, ◌+◌, ◌*◌, ◌/◌, ◌%◌, ◌<◌, Bool, true, false, cond, nat_lt, ◌==◌, ◌&&◌, List, length, get_or, Some, None, refl, sym, ap, ap₂, ◌∙◌, arith}
use Rattle.std.specs.Prelude.{slice_get, option_map}
use Rattle.std.proofs.lemmas.Bool.Decides.{nat_tests}
use Rattle.std.proofs.lemmas.Option.{slice_get-get_or}
use Rattle.term_text.specs.declared.style.Style.{Style}
use Rattle.term_core.specs.declared.rect.Rect.{Rect}
use Rattle.term_core.specs.Rect.{has_place, place_of, intersection}
use Rattle.term_core.specs.Cells.{CellView, with_style}
use Rattle.term_core.specs.Buffers.{BufferView, cell_at}
use Rattle.term_core.proofs.BufferLemmas.{place_in, same_place, eq_parts, eq_differs, place_at}
use Rattle.term_core.proofs.RectLemmas.{has_place-intersection}

-- what stands at a place, when it is there
cell_at-there : (r : Rect) (cs : List CellView) (x y : ℕ) (c : CellView) → has_place r x y ≡ true → length cs ≡ r.height * r.width
    → c ≡ get_or cs (place_of r x y) c → cell_at (record { area = r; cells = cs }) x y ≡ Some c
cell_at-there r cs x y c inside len is =
    let below : place_of r x y < length cs = omega (arith, place_in r x y inside) in
    ap (λ b. cond b (slice_get cs (place_of r x y)) None) inside
    ∙ slice_get-get_or cs (place_of r x y) c below ∙ ap (λ (d : CellView). Some d) (sym is)

-- a new cell in place of the one that stands there is a function of that one
pub changed_there : (f : CellView → CellView) (r : Rect) (cs : List CellView) (x y p q : ℕ) (c : CellView) → has_place r x y ≡ true
    → length cs ≡ r.height * r.width → c ≡ get_or cs (place_of r x y) c
    → cond ((p == x) && (q == y)) (Some (f c)) (cell_at (record { area = r; cells = cs }) p q)
    ≡ cond ((p == x) && (q == y)) (option_map f (cell_at (record { area = r; cells = cs }) p q)) (cell_at (record { area = r; cells = cs }) p q)
changed_there f r cs x y p q c inside len is = go ((p == x) && (q == y)) refl
  where
    b : BufferView
    b = record { area = r; cells = cs }

    go : (t : Bool) → ((p == x) && (q == y)) ≡ t → cond t (Some (f c)) (cell_at (record { area = r; cells = cs }) p q)
        ≡ cond t (option_map f (cell_at (record { area = r; cells = cs }) p q)) (cell_at (record { area = r; cells = cs }) p q)
    go false e = refl
    go true e =
        let same = eq_parts p x q y e in
        sym (ap (option_map f) (ap₂ (cell_at (record { area = r; cells = cs })) same.0 same.1 ∙ cell_at-there r cs x y c inside len is))

-- the style is set on the cells of the rectangle that have a number below n
pub record StyledTo (r : Rect) (s : Style) (n : ℕ) (old new : BufferView) : Type 0 where
  pub area : new.area ≡ old.area
  pub cells : (p q : ℕ) → cell_at new p q
      ≡ cond (has_place r p q && nat_lt (place_of r p q) n) (option_map (λ c. with_style c s) (cell_at old p q)) (cell_at old p q)

pub StyledTo-none : (r : Rect) (s : Style) (old : BufferView) → StyledTo r s 0 old old
StyledTo-none r s old =
    record {
      area = refl;
      cells = λ p q. ap (λ t. cond t (option_map (λ c. with_style c s) (cell_at old p q)) (cell_at old p q)) (sym (none (has_place r p q) (place_of r p q)));
    }
  where
    none : (b : Bool) (k : ℕ) → (b && nat_lt k 0) ≡ false
    none b k = grind (arith, nat_tests)

module _ (r : Rect) (s : Style) (n : ℕ) (old b new : BufferView) (x y : ℕ) where
  step_cells : has_place r x y ≡ true → place_of r x y ≡ n
      → ((p q : ℕ) → cell_at b p q ≡ cond (has_place r p q && nat_lt (place_of r p q) n) (option_map (λ c. with_style c s) (cell_at old p q)) (cell_at old p q))
      → ((p q : ℕ) → cell_at new p q ≡ cond ((p == x) && (q == y)) (option_map (λ c. with_style c s) (cell_at b p q)) (cell_at b p q))
      → (p q : ℕ) → cell_at new p q
      ≡ cond (has_place r p q && nat_lt (place_of r p q) (n + 1)) (option_map (λ c. with_style c s) (cell_at old p q)) (cell_at old p q)
  step_cells inside at inv set p q = set p q ∙ go ((p == x) && (q == y)) refl (has_place r p q) refl (inv p q)
    where
      not_yet : (k m : ℕ) → k ≡ m → nat_lt k m ≡ false
      not_yet k m e = grind (arith, nat_tests)

      now : (k m : ℕ) → k ≡ m → nat_lt k (m + 1) ≡ true
      now k m e = grind (arith, nat_tests)

      apart : (k m : ℕ) → k ≢ m → nat_lt k m ≡ nat_lt k (m + 1)
      apart k m e = grind (arith, nat_tests)

      go : (t : Bool) → ((p == x) && (q == y)) ≡ t → (d : Bool) → has_place r p q ≡ d
          → cell_at b p q ≡ cond (d && nat_lt (place_of r p q) n) (option_map (λ c. with_style c s) (cell_at old p q)) (cell_at old p q)
          → cond t (option_map (λ c. with_style c s) (cell_at b p q)) (cell_at b p q)
          ≡ cond (d && nat_lt (place_of r p q) (n + 1)) (option_map (λ c. with_style c s) (cell_at old p q)) (cell_at old p q)
      go true e false f i =
          let same = eq_parts p x q y e in
          let g : false ≡ true = sym f ∙ ap₂ (has_place r) same.0 same.1 ∙ inside in cc
      go true e true f i =
          let same = eq_parts p x q y e in
          let here : place_of r p q ≡ n = ap₂ (place_of r) same.0 same.1 ∙ at in
          ap (option_map (λ c. with_style c s))
          (i ∙ ap (λ t. cond t (option_map (λ c. with_style c s) (cell_at old p q)) (cell_at old p q)) (not_yet (place_of r p q) n here))
          ∙ sym (ap (λ t. cond t (option_map (λ c. with_style c s) (cell_at old p q)) (cell_at old p q)) (now (place_of r p q) n here))
      go false e false f i = i
      go false e true f i =
          let ne : place_of r p q ≢ n = λ h. (let same = same_place r p q x y f inside (h ∙ sym at) in let g : false ≡ true = eq_differs p x q y e same.0 same.1 in cc) in
          i ∙ ap (λ t. cond t (option_map (λ c. with_style c s) (cell_at old p q)) (cell_at old p q)) (apart (place_of r p q) n ne)

  pub StyledTo-step : StyledTo r s n old b → x ≡ r.x + n % r.width → y ≡ r.y + n / r.width → n % r.width < r.width → n / r.width < r.height
      → new.area ≡ b.area
      → ((p q : ℕ) → cell_at new p q ≡ cond ((p == x) && (q == y)) (option_map (λ c. with_style c s) (cell_at b p q)) (cell_at b p q))
      → StyledTo r s (n + 1) old new
  StyledTo-step inv ex ey bx by_ area set =
      let place = place_at r.x r.y r.width r.height n x y ex ey bx by_ in
      record { area = area ∙ inv.area; cells = step_cells place.0 place.1 inv.cells set }

-- when all cells of the common part have the style
pub StyledTo-all : (r : Rect) (s : Style) (n : ℕ) (old new : BufferView)
    → StyledTo (intersection r old.area) s n old new → n ≡ (intersection r old.area).height * (intersection r old.area).width
    → (p q : ℕ) → cell_at new p q ≡ cond (has_place r p q) (option_map (λ c. with_style c s) (cell_at old p q)) (cell_at old p q)
StyledTo-all r s n old new styled all p q =
    styled.cells p q ∙ go (has_place r p q) (has_place old.area p q) refl refl
  where
    cut : Rect
    cut = intersection r old.area

    below : (k m : ℕ) → k < m → nat_lt k m ≡ true
    below k m h = grind (arith, nat_tests)

    go : (d e : Bool) → has_place r p q ≡ d → has_place old.area p q ≡ e
        → cond (has_place (intersection r old.area) p q && nat_lt (place_of (intersection r old.area) p q) n) (option_map (λ c. with_style c s) (cell_at old p q)) (cell_at old p q)
        ≡ cond d (option_map (λ c. with_style c s) (cell_at old p q)) (cell_at old p q)
    go true true f g =
        let inside : has_place (intersection r old.area) p q ≡ true = has_place-intersection r old.area p q ∙ ap₂ (λ a b. a && b) f g in
        let lt : place_of (intersection r old.area) p q < n = omega (arith, place_in (intersection r old.area) p q inside) in
        ap₂ (λ a b. cond (a && b) (option_map (λ c. with_style c s) (cell_at old p q)) (cell_at old p q)) inside (below (place_of (intersection r old.area) p q) n lt)
    go true false f g =
        let none : cell_at old p q ≡ None = ap (λ t. cond t (slice_get old.cells (place_of old.area p q)) None) g in
        let outside : has_place (intersection r old.area) p q ≡ false = has_place-intersection r old.area p q ∙ ap₂ (λ a b. a && b) f g in
        ap (λ a. cond (a && nat_lt (place_of (intersection r old.area) p q) n) (option_map (λ c. with_style c s) (cell_at old p q)) (cell_at old p q)) outside
        ∙ none ∙ sym (ap (option_map (λ c. with_style c s)) none)
    go false e f g =
        let outside : has_place (intersection r old.area) p q ≡ false = has_place-intersection r old.area p q ∙ ap₂ (λ a b. a && b) f g in
        ap (λ a. cond (a && nat_lt (place_of (intersection r old.area) p q) n) (option_map (λ c. with_style c s) (cell_at old p q)) (cell_at old p q)) outside
