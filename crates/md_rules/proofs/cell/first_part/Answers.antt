use Rattle.std.proofs.Common.{◌≡◌, ◌∷◌, ◌∙◌, ◌+◌, ◌-◌, List, ℕ, take, drop, false, ap, arith, subst, sym}
use Rattle.std.specs.Str.{IsCharBoundary}
use Rattle.term_text.specs.LineEnds.{is_one_line}
use Rattle.md_lines.proofs.LineLemmas.{is_one_line-drop}
use Rattle.md_rules.specs.Tables.{parts}
use Rattle.md_rules.specs.Cells.{before_bar}
use Rattle.md_rules.proofs.OneLine.{is_one_line-take}
use Rattle.md_rules.proofs.CellLemmas.{boundary-bar, boundary-behind_bar, parts-first, parts-last}
use Rattle.md_rules.proofs.cell.first_part.Goals as goal

pub range-requires-clause-end_boundary : goal.range-requires-clause-end_boundary
range-requires-clause-end_boundary c =
    let end : c.before_bar-end.result ≡ before_bar false c.args.text.now = c.before_bar-end.ensures.value ∙ ap (before_bar false) c.as_bytes.ensures.value in
    subst (λ (n : ℕ). IsCharBoundary c.args.text.now n) (sym end) (boundary-bar c.args.text.now (omega arith))

pub range_from-requires : goal.range_from-requires
range_from-requires c =
    let end : c.before_bar-end.result ≡ before_bar false c.args.text.now = c.before_bar-end.ensures.value ∙ ap (before_bar false) c.as_bytes.ensures.value in
    λ _. subst (λ (n : ℕ). IsCharBoundary c.args.text.now (n + 1)) (sym end) (boundary-behind_bar c.args.text.now c.utf8.text (omega arith))

pub returns-then-end-text-clause-parts : goal.returns-then-end-text-clause-parts
returns-then-end-text-clause-parts c =
    let text : List ℕ = c.args.text.now in
    let end : c.before_bar-end.result ≡ before_bar false text = c.before_bar-end.ensures.value ∙ ap (before_bar false) c.as_bytes.ensures.value in
    let cut : c.before_bar-end.result - 0 ≡ before_bar false text = omega (arith, end) in
    let part : c.range.result.now ≡ take (before_bar false text) text = c.range.ensures.value ∙ ap (λ n. take n text) cut in
    let rest : c.range_from.result.now ≡ drop (before_bar false text + 1) text = c.range_from.ensures.value ∙ ap (λ n. drop (n + 1) text) end in
    parts-first false text (omega arith) ∙ (ap (λ x. x ∷ parts false (drop (before_bar false text + 1) text)) (sym part) ∙ ap (λ x. c.range.result.now ∷ parts false x) (sym rest))

pub returns-then-end-text-clause-one_line : goal.returns-then-end-text-clause-one_line
returns-then-end-text-clause-one_line c = (
  ap is_one_line c.range.ensures.value ∙ is_one_line-take (c.before_bar-end.result - 0) c.args.text.now c.requires,
  ap is_one_line c.range_from.ensures.value ∙ is_one_line-drop (c.before_bar-end.result + 1) c.args.text.now c.requires,
)

pub returns-else-end-text-clause-parts : goal.returns-else-end-text-clause-parts
returns-else-end-text-clause-parts c =
    let end : c.before_bar-end.result ≡ before_bar false c.args.text.now = c.before_bar-end.ensures.value ∙ ap (before_bar false) c.as_bytes.ensures.value in
    parts-last false c.args.text.now (omega arith)
