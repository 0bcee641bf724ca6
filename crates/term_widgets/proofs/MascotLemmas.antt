-- The mascot, pair by pair and row by row.
use Rattle.std.proofs.Common.{◌≡◌, ℕ, ◌+◌, ◌-◌, ◌*◌, ◌<◌, ◌≤◌, true, false, nat_le, nat_lt, ◌==◌, ◌&&◌, List, [], ◌∷◌, length, drop, Option, Some, None, refl, sym, ap, ap₂, ◌∙◌, arith, length-drop}
use Rattle.std.specs.Prelude.{◌++◌, map, slice_index_or, slice_get, option_map, unwrap_or, encode_utf8, MatchOption}
use Rattle.std.specs.Str.{chars, IsUtf8}
use Rattle.std.proofs.lemmas.Str.{chars_past_char}
use Rattle.std.proofs.lemmas.Option.{slice_get-map, slice_get_read, slice_get_past}
use Rattle.std.proofs.lemmas.Bool.{and_parts}
use Rattle.std.proofs.lemmas.Bool.Decides.{nat_tests}
use Rattle.term_text.proofs.LineLemmas.{drop_step}
use Rattle.term_core.specs.declared.rect.Rect.{Rect}
use Rattle.term_core.specs.Buffers.{BufferView, cell_at}
use Rattle.term_core.specs.Cells.{CellView}
use Rattle.term_core.specs.Rect.{has_place}
use Rattle.term_core.proofs.CaptionLemmas.{slice_get-past}
use Rattle.term_widgets.specs.declared.mascot.MascotEyeColor.{MascotEyeColor}
use Rattle.term_widgets.specs.Mascot.{picture, dots_in, dots_of, both, pair_at, pair_paint, with_paint, pair_cell, mascot_cell}
use Rattle.term_widgets.proofs.ChangeLemmas.{Changed, Changed-none, Changed-step, Changed-other, IsHere, changed, in_stretch}
use Rattle.term_widgets.proofs.BlockLemmas.{row_begins, row_here, row_apart}
use Rattle.term_widgets.proofs.RowLemmas.{slice_get-drop_head}

-- ---- a row of pairs

-- what a row of the picture does to a column of an area
abbrev pub row_cell : MascotEyeColor → Rect → ℕ → ℕ → ℕ → CellView → CellView
row_cell eye r row p q = mascot_cell eye (p - r.x) row

-- the pairs before the column `at` are drawn, and the dots from there on are left
pub record PairsDrawn (eye : MascotEyeColor) (r : Rect) (row at : ℕ) (uppers lowers : List ℕ) (old new : BufferView) : Type 0 where
  pub uppers_left : uppers ≡ drop (at - r.x) (dots_of (2 * row))
  pub lowers_left : lowers ≡ drop (at - r.x) (dots_of (2 * row + 1))
  pub drawn : Changed (row_cell eye r row) (λ p q. in_stretch r.x at p && (q == r.y + row)) old new

pub PairsDrawn-none : (eye : MascotEyeColor) (r : Rect) (row at : ℕ) (uppers lowers : List ℕ) (old : BufferView) → at ≡ r.x
    → uppers ≡ dots_of (2 * row) → lowers ≡ dots_of (2 * row + 1) → PairsDrawn eye r row at uppers lowers old old
PairsDrawn-none eye r row at uppers lowers old e u l =
    let none : at - r.x ≡ 0 = omega arith in
    record {
      uppers_left = u ∙ sym (ap (λ n. drop n (dots_of (2 * row))) none);
      lowers_left = l ∙ sym (ap (λ n. drop n (dots_of (2 * row + 1))) none);
      drawn = Changed-none _ _ old (λ p q. ap (λ a. in_stretch r.x a p && (q == r.y + row)) e ∙ row_begins r.x (r.y + row) p q);
    }

module _ (eye : MascotEyeColor) (r : Rect) (row at y : ℕ) (uppers lowers uppers' lowers' : List ℕ) (u l : ℕ) (old b new : BufferView) where
  next_pair : uppers ≡ u ∷ uppers' → lowers ≡ l ∷ lowers' → PairsDrawn eye r row at uppers lowers old b → pair_at (at - r.x) row ≡ Some (u, l)
  next_pair eu el inv =
      ap₂ both (slice_get-drop_head (at - r.x) (dots_of (2 * row)) uppers' u (sym inv.uppers_left ∙ eu))
      (slice_get-drop_head (at - r.x) (dots_of (2 * row + 1)) lowers' l (sym inv.lowers_left ∙ el))

  pub PairsDrawn-step : r.x ≤ at → y ≡ r.y + row → uppers ≡ u ∷ uppers' → lowers ≡ l ∷ lowers' → PairsDrawn eye r row at uppers lowers old b
      → new.area ≡ b.area
      → ((p q : ℕ) → cell_at new p q ≡ changed ((p == at) && (q == y)) (with_paint (pair_paint eye u l)) (cell_at b p q))
      → PairsDrawn eye r row (at + 1) uppers' lowers' old new
  PairsDrawn-step from ey eu el inv area set =
      let next : (at - r.x) + 1 ≡ at + 1 - r.x = omega arith in
      record {
        uppers_left = sym (ap (λ n. drop n (dots_of (2 * row))) (sym next) ∙ drop_step (at - r.x) (dots_of (2 * row)) uppers' u (sym inv.uppers_left ∙ eu));
        lowers_left = sym (ap (λ n. drop n (dots_of (2 * row + 1))) (sym next) ∙ drop_step (at - r.x) (dots_of (2 * row + 1)) lowers' l (sym inv.lowers_left ∙ el));
        drawn = Changed-step (row_cell eye r row) (λ p q. with_paint (pair_paint eye u l)) _ _ (λ p q. (p == at) && (q == r.y + row)) old b new inv.drawn
            here (λ p q e. row_apart r.x at (r.y + row) p q e) area
            (λ p q. set p q ∙ ap (λ k. changed ((p == at) && (q == k)) (with_paint (pair_paint eye u l)) (cell_at b p q)) ey);
      }
    where
      column : (p q : ℕ) → ((p == at) && (q == r.y + row)) ≡ true → p ≡ at
      column p q e = eq p at (and_parts _ _ e).0
        where
          eq : (a b : ℕ) → (a == b) ≡ true → a ≡ b
          eq a b h = grind (arith, nat_tests)

      here : (p q : ℕ) → ((p == at) && (q == r.y + row)) ≡ true
          → IsHere (row_cell eye r row) (λ p q. with_paint (pair_paint eye u l)) (λ p q. in_stretch r.x at p && (q == r.y + row)) (λ p q. in_stretch r.x (at + 1) p && (q == r.y + row)) p q
      here p q e =
          let tests = row_here r.x at (r.y + row) p q from e in
          record {
            before = tests.0;
            after = tests.1;
            same = λ c. sym (ap (λ o. pair_cell eye o c) (ap (λ k. pair_at (k - r.x) row) (column p q e) ∙ next_pair eu el inv));
          }

-- ---- the end of a row

both-none : (o : Option ℕ) → both o None ≡ None
both-none None = refl
both-none (Some a) = refl

-- behind the last dot of a line there is no pair
none_left : (at k : ℕ) (dots : List ℕ) → drop at dots ≡ [] → at ≤ k → slice_get dots k ≡ None
none_left at k dots e h = slice_get-past dots k (let len = ap length e in omega (arith, length-drop at dots))

pub upper_ends : (eye : MascotEyeColor) (at row k : ℕ) → drop at (dots_of (2 * row)) ≡ [] → at ≤ k → (c : CellView) → mascot_cell eye k row c ≡ c
upper_ends eye at row k e h c =
    ap (λ o. pair_cell eye (both o (slice_get (dots_of (2 * row + 1)) k)) c) (none_left at k (dots_of (2 * row)) e h)

pub lower_ends : (eye : MascotEyeColor) (at row k : ℕ) → drop at (dots_of (2 * row + 1)) ≡ [] → at ≤ k → (c : CellView) → mascot_cell eye k row c ≡ c
lower_ends eye at row k e h c =
    ap (λ o. pair_cell eye (both (slice_get (dots_of (2 * row)) k) o) c) (none_left at k (dots_of (2 * row + 1)) e h)
    ∙ ap (λ o. pair_cell eye o c) (both-none (slice_get (dots_of (2 * row)) k))

-- when the columns before `at` are drawn and nothing stands behind them, the row is drawn
module _ (eye : MascotEyeColor) (r : Rect) (row at : ℕ) (old new : BufferView) where
  in_row : (rx ry w h p q : ℕ) → row < h → at ≤ rx + w → (in_stretch rx at p && (q == ry + row)) ≡ true
      → (((nat_le rx p && nat_lt p (rx + w)) && (nat_le ry q && nat_lt q (ry + h))) && (q == ry + row)) ≡ true
  in_row rx ry w h p q below within e = grind (arith, nat_tests)

  behind : (rx ry w h p q : ℕ) → (in_stretch rx at p && (q == ry + row)) ≡ false
      → (((nat_le rx p && nat_lt p (rx + w)) && (nat_le ry q && nat_lt q (ry + h))) && (q == ry + row)) ≡ true → at - rx ≤ p - rx
  behind rx ry w h p q e f = grind (arith, nat_tests)

  pub row-drawn : row < r.height → at ≤ r.x + r.width
      → Changed (row_cell eye r row) (λ p q. in_stretch r.x at p && (q == r.y + row)) old new
      → ((k : ℕ) → at - r.x ≤ k → k < r.width → (c : CellView) → mascot_cell eye k row c ≡ c)
      → (p q : ℕ) → cell_at new p q ≡ changed (has_place r p q && (q == r.y + row)) (row_cell eye r row p q) (cell_at old p q)
  row-drawn below within drawn rest =
      Changed-other (row_cell eye r row) _ (λ p q. has_place r p q && (q == r.y + row)) old new drawn
      (λ p q e. in_row r.x r.y r.width r.height p q below within e)
      (λ p q e f c. rest (p - r.x) (behind r.x r.y r.width r.height p q e f) (column r.x r.y r.width r.height p q f) c)
    where
      column : (rx ry w h p q : ℕ)
          → (((nat_le rx p && nat_lt p (rx + w)) && (nat_le ry q && nat_lt q (ry + h))) && (q == ry + row)) ≡ true → p - rx < w
      column rx ry w h p q e = grind (arith, nat_tests)

-- ---- the rows

abbrev pub area_cell : MascotEyeColor → Rect → ℕ → ℕ → CellView → CellView
area_cell eye r p q = mascot_cell eye (p - r.x) (q - r.y)

-- the rows before `row` are drawn
abbrev pub RowsDrawn : MascotEyeColor → Rect → ℕ → BufferView → BufferView → Type 0
RowsDrawn eye r row old new = Changed (area_cell eye r) (λ p q. has_place r p q && nat_lt q (r.y + row)) old new

module _ (rx ry w h row p q : ℕ) where
  no_row : (((nat_le rx p && nat_lt p (rx + w)) && (nat_le ry q && nat_lt q (ry + h))) && nat_lt q (ry + 0)) ≡ false
  no_row = grind (arith, nat_tests)

  row_at : (((nat_le rx p && nat_lt p (rx + w)) && (nat_le ry q && nat_lt q (ry + h))) && (q == ry + row)) ≡ true
      → ((((nat_le rx p && nat_lt p (rx + w)) && (nat_le ry q && nat_lt q (ry + h))) && nat_lt q (ry + row)) ≡ false)
      × (((((nat_le rx p && nat_lt p (rx + w)) && (nat_le ry q && nat_lt q (ry + h))) && nat_lt q (ry + (row + 1))) ≡ true) × (q - ry ≡ row))
  row_at e = (grind (arith, nat_tests), (grind (arith, nat_tests), grind (arith, nat_tests)))

  other_row : (((nat_le rx p && nat_lt p (rx + w)) && (nat_le ry q && nat_lt q (ry + h))) && (q == ry + row)) ≡ false
      → (((nat_le rx p && nat_lt p (rx + w)) && (nat_le ry q && nat_lt q (ry + h))) && nat_lt q (ry + row))
      ≡ (((nat_le rx p && nat_lt p (rx + w)) && (nat_le ry q && nat_lt q (ry + h))) && nat_lt q (ry + (row + 1)))
  other_row e = grind (arith, nat_tests)

  later_row : (((nat_le rx p && nat_lt p (rx + w)) && (nat_le ry q && nat_lt q (ry + h))) && nat_lt q (ry + row)) ≡ false
      → ((nat_le rx p && nat_lt p (rx + w)) && (nat_le ry q && nat_lt q (ry + h))) ≡ true → (row ≤ q - ry) × (q - ry < h)
  later_row e f = (grind (arith, nat_tests), grind (arith, nat_tests))

pub RowsDrawn-none : (eye : MascotEyeColor) (r : Rect) (row : ℕ) (old : BufferView) → row ≡ 0 → RowsDrawn eye r row old old
RowsDrawn-none eye r row old e =
    Changed-none _ _ old (λ p q. ap (λ n. has_place r p q && nat_lt q (r.y + n)) e ∙ no_row r.x r.y r.width r.height 0 p q)

pub RowsDrawn-step : (eye : MascotEyeColor) (r : Rect) (row : ℕ) (old b new : BufferView) → RowsDrawn eye r row old b → new.area ≡ b.area
    → ((p q : ℕ) → cell_at new p q ≡ changed (has_place r p q && (q == r.y + row)) (row_cell eye r row p q) (cell_at b p q))
    → RowsDrawn eye r (row + 1) old new
RowsDrawn-step eye r row old b new inv area set =
    Changed-step (area_cell eye r) (row_cell eye r row) _ _ (λ p q. has_place r p q && (q == r.y + row)) old b new inv
    (λ p q e. here p q (row_at r.x r.y r.width r.height row p q e)) (λ p q e. other_row r.x r.y r.width r.height row p q e) area set
  where
    here : (p q : ℕ)
        → ((has_place r p q && nat_lt q (r.y + row)) ≡ false) × (((has_place r p q && nat_lt q (r.y + (row + 1))) ≡ true) × (q - r.y ≡ row))
        → IsHere (area_cell eye r) (row_cell eye r row) (λ p q. has_place r p q && nat_lt q (r.y + row)) (λ p q. has_place r p q && nat_lt q (r.y + (row + 1))) p q
    here p q tests = record { before = tests.0; after = tests.1.0; same = λ c. sym (ap (λ k. mascot_cell eye (p - r.x) k c) tests.1.1) }

-- the picture has 32 lines
picture_lines : length (map chars picture) ≡ 32
picture_lines = refl

no_line : (line : ℕ) → 32 ≤ line → dots_of line ≡ []
no_line line h = ap (λ o. unwrap_or o []) (slice_get-past (map chars picture) line (let n = picture_lines in omega arith))

pub mascot-drawn : (eye : MascotEyeColor) (r : Rect) (rows : ℕ) (old new : BufferView) → (rows < r.height → 16 ≤ rows)
    → RowsDrawn eye r rows old new
    → (p q : ℕ) → cell_at new p q ≡ changed (has_place r p q) (area_cell eye r p q) (cell_at old p q)
mascot-drawn eye r rows old new all drawn =
    Changed-other (area_cell eye r) _ (λ p q. has_place r p q) old new drawn (λ p q e. (and_parts _ _ e).0) rest
  where
    rest : (p q : ℕ) → (has_place r p q && nat_lt q (r.y + rows)) ≡ false → has_place r p q ≡ true → (c : CellView) → area_cell eye r p q c ≡ c
    rest p q e f c =
        let late = later_row r.x r.y r.width r.height rows p q e f in
        let from = late.0 in let below = late.1 in
        let most : 16 ≤ rows = all (omega arith) in
        upper_ends eye 0 (q - r.y) (p - r.x) (no_line (2 * (q - r.y)) (omega arith)) (omega arith) c

-- ---- the dots of a line, one after another

-- the line of a picture at a place, and no line behind the last
module _ {X : Type 0} (f : X → List ℕ) (lines : List X) (line : ℕ) where
  told : dots_in (map f lines) line ≡ unwrap_or (option_map chars (option_map f (slice_get lines line))) []
  told =
      ap (λ o. unwrap_or o []) (slice_get-map chars (map f lines) line ∙ ap (option_map chars) (slice_get-map f lines line))

  pub dots_in-line : (text : X) → line < length lines → text ≡ slice_index_or lines line text → chars (f text) ≡ dots_in (map f lines) line
  dots_in-line text h e = sym (told ∙ ap (λ o. unwrap_or (option_map chars (option_map f o)) []) (slice_get_read lines (length lines) line text refl h e))

  pub dots_in-past : length lines ≤ line → [] ≡ dots_in (map f lines) line
  dots_in-past h = sym (told ∙ ap (λ o. unwrap_or (option_map chars (option_map f o)) []) (slice_get_past lines line h))

pub next_dot : (X : Type 0) (bs : List ℕ) (o : Option ℕ) (rest : List ℕ) → IsUtf8 bs → MatchOption o ((length bs ≡ 0) × X) (λ c. bs ≡ encode_utf8 c ++ rest)
    → MatchOption o (chars bs ≡ []) (λ dot. chars bs ≡ dot ∷ chars rest)
unfolding chars
next_dot X [] None rest utf8 e = refl
next_dot X (b ∷ bs) None rest utf8 e = let none = e.0 in absurd (omega arith)
next_dot X bs (Some c) rest utf8 e = chars_past_char bs rest c utf8 e
