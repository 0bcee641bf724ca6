use Rattle.std.proofs.Common.{◌≡◌, ◌∙◌, List, ℕ, ap, false}
use Rattle.term_text.specs.LineEnds.{is_one_line}
use Rattle.md_rules.specs.Texts.{trimmed}
use Rattle.md_rules.specs.Tables.{without_end_bar, without_start_bar}
use Rattle.md_rules.proofs.CellLemmas.{is_one_line-inner}
use Rattle.md_rules.proofs.cell.inner.Goals as goal

pub returns-clause-one_line : goal.returns-clause-one_line
returns-clause-one_line c =
    let body : List ℕ = c.line.inside.body.now in
    let same : c.without_end_bar.result.now ≡ without_end_bar false (without_start_bar (trimmed body)) = c.without_end_bar.ensures ∙ ap (without_end_bar false) (c.without_start_bar.ensures ∙ ap without_start_bar c.trimmed.ensures) in
    ap is_one_line same ∙ is_one_line-inner body c.line.invariant.1
