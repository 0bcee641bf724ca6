use Rattle.std.proofs.Common.{◌∙◌, ap, drop, List, ℕ}
use Rattle.term_text.specs.LineEnds.{is_one_line}
use Rattle.md_lines.proofs.LineLemmas.{is_one_line-drop}
use Rattle.md_rules.specs.Headings.{hashes}
use Rattle.md_rules.proofs.OneLine.{is_one_line-trimmed}
use Rattle.md_rules.proofs.heading.heading_at.Goals as goal

pub heading_with-requires : goal.heading_with-requires
heading_with-requires c =
    let body : List ℕ = c.line.inside.body.now in
    ap is_one_line c.heading_text.ensures ∙ is_one_line-trimmed (drop (hashes body) body) (is_one_line-drop (hashes body) body c.line.invariant.1)
