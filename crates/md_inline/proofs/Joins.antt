-- The lines of a source joined one by one.
use Rattle.std.proofs.Common.{List, [], ◌∷◌, ◌++◌, length, drop, get_or, map, ◌≡◌, ◌≤◌, ◌<◌, ◌+◌, ◌-◌, ◌==◌, ℕ, zero, suc, refl, sym, ap, ◌∙◌, arith, true, false, Bool, cond, append_assoc, length-drop}
use Rattle.std.specs.List.{join_with_byte}
use Rattle.std.proofs.lemmas.Bool.Decides.{nat_tests}
use Rattle.std.proofs.lemmas.List.{drop_more, append-nil}
use Rattle.md_lines.specs.Lines.{LineText, body_of}
use Rattle.md_inline.specs.Inlines.{with_line_end}

-- what is joined from a line on
abbrev from_line : List LineText → List ℕ
from_line lines = join_with_byte 10 (map body_of lines)

first-line : (body : List ℕ) (rest : List LineText) → join_with_byte 10 (body ∷ map body_of rest) ≡ with_line_end body (length rest == 0) ++ from_line rest
first-line body [] = sym (append-nil body)
first-line body (l ∷ rest) =
    let some : (suc (length rest) == 0) ≡ false = grind (arith, nat_tests) in
    rw some (sym (append_assoc body (10 ∷ []) (from_line (l ∷ rest))))

pub joined-step : (lines : List LineText) (at : ℕ) (line : LineText) (old new : List ℕ) → at < length lines → line ≡ get_or lines at line → new ≡ old ++ with_line_end line.body (at + 1 == length lines) → old ++ from_line (drop at lines) ≡ from_line lines → new ++ from_line (drop (at + 1) lines) ≡ from_line lines
joined-step lines at line old new lt here e h =
    let rest : List LineText = drop (at + 1) lines in
    let last : (length rest == 0) ≡ (at + 1 == length lines) = ap (λ n. n == 0) (length-drop (at + 1) lines) ∙ none (at + 1) (length lines) (omega arith) in
    let cut : drop at lines ≡ line ∷ rest = drop_more lines at line lt ∙ ap (λ l. l ∷ rest) (sym here) in
    ap (λ x. x ++ from_line rest) e
    ∙ (append_assoc old (with_line_end line.body (at + 1 == length lines)) (from_line rest)
    ∙ (ap (λ v. old ++ (with_line_end line.body v ++ from_line rest)) (sym last)
    ∙ (ap (λ x. old ++ x) (sym (ap from_line cut ∙ first-line line.body rest)) ∙ h)))
  where
    none : (m n : ℕ) → m ≤ n → (n - m == 0) ≡ (m == n)
    none m n le = grind (arith, nat_tests)
