-- The mascot's picture, checked once dot by dot.
use Rattle.std.proofs.Common.{◌≡◌, ℕ, zero, suc, ◌+◌, ◌*◌, ◌<◌, ◌≤◌, ◌⊎◌, inl, inr, Bool, true, false, nat_lt, ◌==◌, ◌&&◌, ◌||◌, not, List, [], ◌∷◌, Option, Some, None, refl, sym, ap, ap₂, ◌∙◌, arith}
use Rattle.std.specs.Prelude.{map, slice_get, unwrap_or}
use Rattle.std.specs.Str.{chars}
use Rattle.std.proofs.lemmas.Bool.{and_parts}
use Rattle.std.proofs.lemmas.Bool.Decides.{nat_tests}
use Rattle.term_widgets.specs.declared.mascot.MascotEyeColor.{MascotEyeColor}
use Rattle.term_widgets.specs.declared.mascot.MascotEyeColor.TheVariants.{Default, Red}
use Rattle.term_core.specs.Cells.{CellView}
use Rattle.term_core.specs.Paint.{painted}
use Rattle.term_widgets.specs.Mascot.{upper_half, full, picture, dots_of, both, paint_of, pair_paint, pair_cell, with_paint, mascot_cell, is_dot, has_eye, eye_color, dot_color}

-- whether each item of a list passes a test, which is told the item's place too
abbrev passes : {A : Type 0} → (ℕ → A → Bool) → ℕ → List A → Bool
passes test n [] = true
passes test n (x ∷ xs) = test n x && passes test (n + 1) xs

passes-at : {A : Type 0} (test : ℕ → A → Bool) (n : ℕ) (xs : List A) (i k : ℕ) (x : A) → passes test n xs ≡ true → slice_get xs i ≡ Some x → k ≡ n + i → test k x ≡ true
passes-at test n [] i k x e f p = cc
passes-at test n (y ∷ ys) zero k x e f p =
    let at : k ≡ n = omega arith in
    let same : y ≡ x = ap (λ o. unwrap_or o y) f in
    ap₂ test at (sym same) ∙ (and_parts _ _ e).0
passes-at test n (y ∷ ys) (suc i) k x e f p = passes-at test (n + 1) ys i k x (and_parts _ _ e).1 f (omega arith)

-- a dot stands in 32 lines and columns and is of its kind, and that of the eye in two places of a lower line
abbrev in_place : ℕ → ℕ → Bool
in_place line i = (line == 11) && ((i == 21) || (i == 22))

abbrev dot_passes : ℕ → ℕ → ℕ → Bool
dot_passes line i dot = (nat_lt line 32 && nat_lt i 32) && (is_dot dot && (not (dot == 0x65) || in_place line i))

all_pass : passes (λ line dots. passes (dot_passes line) 0 dots) 0 (map chars picture) ≡ true
unfolding chars
all_pass = refl

dot_at : (line i dot : ℕ) → slice_get (dots_of line) i ≡ Some dot → dot_passes line i dot ≡ true
dot_at line i dot = go (slice_get (map chars picture) line) refl
  where
    go : (o : Option (List ℕ)) → slice_get (map chars picture) line ≡ o → slice_get (unwrap_or o []) i ≡ Some dot → dot_passes line i dot ≡ true
    go None e f = cc
    go (Some dots) e f =
        passes-at (dot_passes line) 0 dots i i dot
        (passes-at (λ l ds. passes (dot_passes l) 0 ds) 0 (map chars picture) line line dots all_pass e (omega arith)) f (omega arith)

pub dot-bounds : (line i dot : ℕ) → slice_get (dots_of line) i ≡ Some dot → (line < 32) × (i < 32) × (is_dot dot ≡ true)
dot-bounds line i dot e =
    let all = and_parts _ _ (dot_at line i dot e) in
    let bounds = and_parts _ _ all.0 in
    (below line bounds.0, below i bounds.1, (and_parts _ _ all.1).0)
  where
    below : (n : ℕ) → nat_lt n 32 ≡ true → n < 32
    below n e = grind (arith, nat_tests)

-- ---- how far the picture goes

pub mascot_cell-last_column : (eye : MascotEyeColor) (c : CellView) → mascot_cell eye 31 4 c ≡ painted (full 0x2588 (dot_color eye 0x2588) (dot_color eye 0x2588)) c
unfolding chars
mascot_cell-last_column eye c = refl

pub mascot_cell-last_row : (eye : MascotEyeColor) (c : CellView) → mascot_cell eye 26 15 c ≡ painted (full 0x2588 (dot_color eye 0x2588) (dot_color eye 0x2588)) c
unfolding chars
mascot_cell-last_row eye c = refl

pub mascot_cell-past : (eye : MascotEyeColor) (x y : ℕ) (c : CellView) → (32 ≤ x) ⊎ (16 ≤ y) → mascot_cell eye x y c ≡ c
mascot_cell-past eye x y c h = go (slice_get (dots_of (2 * y)) x) refl
  where
    go : (o : Option ℕ) → slice_get (dots_of (2 * y)) x ≡ o → mascot_cell eye x y c ≡ c
    go None e = ap (λ o. pair_cell eye (both o (slice_get (dots_of (2 * y + 1)) x)) c) e
    go (Some dot) e = let bounds = dot-bounds (2 * y) x dot e in let l = bounds.0 in let i = bounds.1 in absurd (out h l i)
      where
        out : (32 ≤ x) ⊎ (16 ≤ y) → 2 * y < 32 → x < 32 → ⊥
        out (inl p) l i = omega arith
        out (inr p) l i = omega arith

-- ---- the eye

pub eye-left : (eye : MascotEyeColor) (c : CellView) → mascot_cell eye 21 5 c ≡ painted (upper_half (dot_color eye 0x2588) (Some (eye_color eye))) c
unfolding chars
eye-left eye c = refl

pub eye-right : (eye : MascotEyeColor) (c : CellView) → mascot_cell eye 22 5 c ≡ painted (upper_half (dot_color eye 0x2588) (Some (eye_color eye))) c
unfolding chars
eye-right eye c = refl

same_color : (dot : ℕ) → (dot == 0x65) ≡ false → dot_color Red dot ≡ dot_color Default dot
same_color dot e = grind arith

no_eye : (line i dot : ℕ) → in_place line i ≡ false → slice_get (dots_of line) i ≡ Some dot → (dot == 0x65) ≡ false
no_eye line i dot off e = go (dot == 0x65) (in_place line i) (and_parts _ _ (and_parts _ _ (dot_at line i dot e)).1).1 off
  where
    go : (t p : Bool) → (not t || p) ≡ true → p ≡ false → t ≡ false
    go false p h e = refl
    go true true h e = e
    go true false h e = sym h

off_upper : (x y : ℕ) → in_place (2 * y) x ≡ false
off_upper x y = grind (arith, nat_tests)

off_lower : (x y : ℕ) → has_eye x y ≡ false → in_place (2 * y + 1) x ≡ false
off_lower x y e = grind (arith, nat_tests)

pub same_but_eye : (x y : ℕ) (c : CellView) → has_eye x y ≡ false → mascot_cell Red x y c ≡ mascot_cell Default x y c
same_but_eye x y c off = go (slice_get (dots_of (2 * y)) x) (slice_get (dots_of (2 * y + 1)) x) refl refl
  where
    go : (o p : Option ℕ) → slice_get (dots_of (2 * y)) x ≡ o → slice_get (dots_of (2 * y + 1)) x ≡ p → pair_cell Red (both o p) c ≡ pair_cell Default (both o p) c
    go None p e f = refl
    go (Some a) None e f = refl
    go (Some a) (Some b) e f =
        let up = same_color a (no_eye (2 * y) x a (off_upper x y) e) in
        let low = same_color b (no_eye (2 * y + 1) x b (off_lower x y off) f) in
        ap (λ o. with_paint o c) (same_paint a b up low)
      where
        same_paint : (a b : ℕ) → dot_color Red a ≡ dot_color Default a → dot_color Red b ≡ dot_color Default b → pair_paint Red a b ≡ pair_paint Default a b
        same_paint a b up low = ap₂ (paint_of a b) up low
