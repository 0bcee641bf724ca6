use Rattle.std.proofs.Common.{◌∙◌, ap}
use Rattle.term_text.specs.LineEnds.{is_one_line}
use Rattle.md_rules.proofs.OneLine.{is_one_line-trimmed}
use Rattle.md_rules.proofs.cell.Cells.next_cell.Goals as goal

pub returns-clause-one_line : goal.returns-clause-one_line
returns-clause-one_line c = ap is_one_line c.trimmed.ensures ∙ is_one_line-trimmed c.first_part.result.0.now c.first_part.ensures.one_line.0
