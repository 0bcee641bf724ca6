use Rattle.std.proofs.Common.{◌∙◌, ap}
use Rattle.term_text.specs.LineEnds.{is_one_line}
use Rattle.md_rules.proofs.OneLine.{is_one_line-trimmed}
use Rattle.md_rules.proofs.definitions.title_of.Goals as goal

pub invariant_of-result : goal.invariant_of-result
invariant_of-result c = (c.trimmed.utf8, ap is_one_line c.trimmed.ensures ∙ is_one_line-trimmed c.line.inside.body.now c.line.invariant.1)
