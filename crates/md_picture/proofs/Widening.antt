-- The bounds of columns, and the cells that they fit.
use Rattle.std.proofs.Common.{◌≡◌, ℕ, zero, suc, ◌+◌, ◌<◌, ◌≤◌, List, [], ◌∷◌, ◌++◌, take, drop, set, get_or, length, refl, sym, ap, subst, ◌∙◌, arith}
use Rattle.std.proofs.Math.Seq.{drop-cons}
use Rattle.std.proofs.Math.ListN.{drop_of_length-le}
use Rattle.std.proofs.lemmas.List.{take-append-drop}
use Rattle.term_text.specs.Text.{LineView}
use Rattle.md_columns.specs.declared.bounds.Bounds.{Bounds}
use Rattle.md_picture.specs.Cells.{narrowest, with_cell, with_row}

pub with_row-nil : (bounds : List Bounds) → with_row bounds [] ≡ bounds
unfolding with_row
with_row-nil [] = refl
with_row-nil (b ∷ bounds) = refl

-- the bounds with one more cell of a row
abbrev pub widened : ℕ → List Bounds → LineView → List Bounds
widened at bounds cell = take at bounds ++ with_row (drop at bounds) (cell ∷ [])

pub widened-reaches : (at : ℕ) (bounds : List Bounds) (cell : LineView) → at ≤ length bounds → at + 1 ≤ length (widened at bounds cell)
unfolding with_row
widened-reaches zero [] cell h = omega arith
widened-reaches zero (b ∷ bounds) cell h = omega arith
widened-reaches (suc at) [] cell h = absurd (omega (arith, h))
widened-reaches (suc at) (b ∷ bounds) cell h = omega (arith, widened-reaches at bounds cell (omega (arith, h)))

pub widened-more : (at : ℕ) (bounds : List Bounds) (cell : LineView) (cells : List LineView) → at ≤ length bounds → take (suc at) (widened at bounds cell) ++ with_row (drop (suc at) (widened at bounds cell)) cells ≡ take at bounds ++ with_row (drop at bounds) (cell ∷ cells)
unfolding with_row
widened-more zero [] cell cells h = refl
widened-more zero (b ∷ []) cell cells h = refl
widened-more zero (b ∷ c ∷ bounds) cell cells h = refl
widened-more (suc at) [] cell cells h = absurd (omega (arith, h))
widened-more (suc at) (b ∷ bounds) cell cells h = ap (λ r. b ∷ r) (widened-more at bounds cell cells (omega (arith, h)))

pub widened-turn : (at : ℕ) (all bounds grown : List Bounds) (cell : LineView) (cells : List LineView) → grown ≡ widened at bounds cell → at < length cells → get_or cells at cell ≡ cell → at ≤ length bounds → take at bounds ++ with_row (drop at bounds) (drop at cells) ≡ all → (at + 1 ≤ length grown) × (take (at + 1) grown ++ with_row (drop (at + 1) grown) (drop (at + 1) cells) ≡ all)
widened-turn at all bounds grown cell cells is lt here fits sofar =
    let next : at + 1 ≡ suc at = omega arith in
    let turn : drop at cells ≡ cell ∷ drop (suc at) cells = drop-cons cells at cell lt ∙ ap (λ c. c ∷ drop (suc at) cells) here in
    let whole : take (suc at) grown ++ with_row (drop (suc at) grown) (drop (suc at) cells) ≡ all =
    ap (λ bs. take (suc at) bs ++ with_row (drop (suc at) bs) (drop (suc at) cells)) is
    ∙ widened-more at bounds cell (drop (suc at) cells) fits
    ∙ ap (λ cs. take at bounds ++ with_row (drop at bounds) cs) (sym turn) ∙ sofar in
    (omega (arith, widened-reaches at bounds cell fits, ap length is), subst (λ n. take n grown ++ with_row (drop n grown) (drop n cells) ≡ all) (sym next) whole)

pub widened-ends : (at : ℕ) (all bounds : List Bounds) (cells : List LineView) → length cells ≤ at → take at bounds ++ with_row (drop at bounds) (drop at cells) ≡ all → bounds ≡ all
widened-ends at all bounds cells past sofar =
    sym (take-append-drop at bounds) ∙ ap (λ bs. take at bounds ++ bs) (sym (with_row-nil (drop at bounds)))
    ∙ ap (λ cs. take at bounds ++ with_row (drop at bounds) cs) (sym (drop_of_length-le cells past)) ∙ sofar

pub set-widened : (at : ℕ) (bounds : List Bounds) (b wider : Bounds) (cell : LineView) → at < length bounds → get_or bounds at b ≡ b → wider ≡ with_cell b cell → set bounds at wider ≡ widened at bounds cell
unfolding with_row
set-widened zero [] b wider cell lt here is = absurd (omega (arith, lt))
set-widened zero (c ∷ bounds) b wider cell lt here is = ap (λ w. w ∷ bounds) (is ∙ ap (λ d. with_cell d cell) (sym here)) ∙ ap (λ bs. with_cell c cell ∷ bs) (sym (with_row-nil bounds))
set-widened (suc at) [] b wider cell lt here is = absurd (omega (arith, lt))
set-widened (suc at) (c ∷ bounds) b wider cell lt here is = ap (λ r. c ∷ r) (set-widened at bounds b wider cell (omega (arith, lt)) here is)

pub push-widened : (at : ℕ) (bounds : List Bounds) (cell : LineView) → length bounds ≤ at → at ≤ length bounds → bounds ++ with_cell narrowest cell ∷ [] ≡ widened at bounds cell
unfolding with_row
push-widened zero [] cell past fits = refl
push-widened zero (c ∷ bounds) cell past fits = absurd (omega (arith, past))
push-widened (suc at) [] cell past fits = absurd (omega (arith, fits))
push-widened (suc at) (c ∷ bounds) cell past fits = ap (λ r. c ∷ r) (push-widened at bounds cell (omega (arith, past)) (omega (arith, fits)))
