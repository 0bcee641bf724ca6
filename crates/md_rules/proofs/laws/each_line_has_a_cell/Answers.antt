use Rattle.md_rules.proofs.CellLemmas.{cells-some}
use Rattle.md_rules.proofs.laws.each_line_has_a_cell.Goals as goal

pub returns : goal.returns
returns c = cells-some
