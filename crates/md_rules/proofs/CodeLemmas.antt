-- Lines that hang below a line, one by one.
use Rattle.std.proofs.Common.{List, [], ◌∷◌, length, drop, get_or, ◌≡◌, ◌≤◌, ◌<◌, ◌+◌, ℕ, zero, suc, refl, sym, ap, ◌∙◌, arith, true, false, nat_le}
use Rattle.std.proofs.lemmas.List.{drop_more}
use Rattle.std.proofs.Math.ListN.{drop_of_length-le}
use Rattle.md_lines.specs.Lines.{LineText, is_empty}
use Rattle.md_rules.specs.Code.{hanging, if_more}

-- how many lines are taken where so many more hang below those up to a place
abbrev pub with_taken : ℕ → ℕ → ℕ → ℕ
with_taken taken at zero = taken
with_taken taken at (suc n) = at + suc n

pub with_taken-empty : (taken at n : ℕ) → with_taken taken at (if_more n) ≡ with_taken taken (at + 1) n
with_taken-empty taken at zero = refl
with_taken-empty taken at (suc n) = omega arith

with_taken-more : (taken at n : ℕ) → with_taken taken at (suc n) ≡ with_taken (at + 1) (at + 1) n
with_taken-more taken at zero = omega arith
with_taken-more taken at (suc n) = omega arith

hanging-empty : (column : ℕ) (line : LineText) (lines : List LineText) → is_empty line ≡ true → hanging column (line ∷ lines) ≡ if_more (hanging column lines)
unfolding hanging
hanging-empty column line lines e = rw e refl

hanging-deep : (column : ℕ) (line : LineText) (lines : List LineText) → is_empty line ≡ false → nat_le column line.indent ≡ true → hanging column (line ∷ lines) ≡ suc (hanging column lines)
unfolding hanging
hanging-deep column line lines e d = rw (e, d) refl

hanging-shallow : (column : ℕ) (line : LineText) (lines : List LineText) → is_empty line ≡ false → nat_le column line.indent ≡ false → hanging column (line ∷ lines) ≡ 0
unfolding hanging
hanging-shallow column line lines e d = rw (e, d) refl

-- an empty line is passed over
pub empty-step : (column : ℕ) (lines : List LineText) (taken at : ℕ) (d : LineText) (all : ℕ) → at < length lines → is_empty (get_or lines at d) ≡ true → with_taken taken at (hanging column (drop at lines)) ≡ all → with_taken taken (at + 1) (hanging column (drop (at + 1) lines)) ≡ all
empty-step column lines taken at d all lt e h =
    let here : hanging column (drop at lines) ≡ if_more (hanging column (drop (at + 1) lines)) = ap (hanging column) (drop_more lines at d lt) ∙ hanging-empty column (get_or lines at d) (drop (at + 1) lines) e in
    sym (with_taken-empty taken at (hanging column (drop (at + 1) lines))) ∙ (ap (with_taken taken at) (sym here) ∙ h)

-- a line with enough indent is taken with all before it
pub deep-step : (column : ℕ) (lines : List LineText) (taken at : ℕ) (d : LineText) (all : ℕ) → at < length lines → is_empty (get_or lines at d) ≡ false → nat_le column (get_or lines at d).indent ≡ true → with_taken taken at (hanging column (drop at lines)) ≡ all → with_taken (at + 1) (at + 1) (hanging column (drop (at + 1) lines)) ≡ all
deep-step column lines taken at d all lt e i h =
    let here : hanging column (drop at lines) ≡ suc (hanging column (drop (at + 1) lines)) = ap (hanging column) (drop_more lines at d lt) ∙ hanging-deep column (get_or lines at d) (drop (at + 1) lines) e i in
    sym (with_taken-more taken at (hanging column (drop (at + 1) lines))) ∙ (ap (with_taken taken at) (sym here) ∙ h)

-- nothing hangs behind a line with less
pub shallow-stop : (column : ℕ) (lines : List LineText) (taken at : ℕ) (d : LineText) (all : ℕ) → at < length lines → is_empty (get_or lines at d) ≡ false → nat_le column (get_or lines at d).indent ≡ false → with_taken taken at (hanging column (drop at lines)) ≡ all → taken ≡ all
shallow-stop column lines taken at d all lt e i h =
    let here : hanging column (drop at lines) ≡ 0 = ap (hanging column) (drop_more lines at d lt) ∙ hanging-shallow column (get_or lines at d) (drop (at + 1) lines) e i in
    ap (with_taken taken at) (sym here) ∙ h

pub end-stop : (column : ℕ) (lines : List LineText) (taken at : ℕ) (all : ℕ) → length lines ≤ at → with_taken taken at (hanging column (drop at lines)) ≡ all → taken ≡ all
unfolding hanging
end-stop column lines taken at all le h =
    let none : drop at lines ≡ [] = drop_of_length-le lines le in
    ap (λ x. with_taken taken at (hanging column x)) (sym none) ∙ h
