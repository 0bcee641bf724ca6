-- Lines from a place on.
use Rattle.std.proofs.Common.{List, [], ◌∷◌, length, drop, take, ◌≡◌, ◌+◌, ◌-◌, ℕ, zero, suc, sym, ap, ◌∙◌, arith, length-drop, take_all, zero-add}
use Rattle.std.proofs.Math.Seq.{drop-nil}
use Rattle.std.proofs.Math.Nat.{suc-add}
use Rattle.md_lines.specs.Lines.{LineText}

pub drop-drop : (k at : ℕ) (lines : List LineText) → drop (at + k) lines ≡ drop k (drop at lines)
drop-drop k zero lines = ap (λ x. drop x lines) (zero-add k)
drop-drop k (suc at) [] = drop-nil (suc at + k) ∙ sym (drop-nil k)
drop-drop k (suc at) (line ∷ later) = ap (λ x. drop x (line ∷ later)) (suc-add at k) ∙ drop-drop k at later

-- the slice of the lines from a place on
pub slice-rest : (at : ℕ) (lines : List LineText) → take (length lines - at) (drop at lines) ≡ drop at lines
slice-rest at lines = take_all (length lines - at) (drop at lines) (omega (arith, length-drop at lines))

pub length-slice : (at : ℕ) (lines : List LineText) → length (take (length lines - at) (drop at lines)) ≡ length lines - at
length-slice at lines = ap length (slice-rest at lines) ∙ length-drop at lines
