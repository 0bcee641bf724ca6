use Rattle.md_columns.proofs.Fairness.{length-fair}
use Rattle.md_columns.proofs.laws.one_width_each.Goals as goal

pub returns : goal.returns
returns c = length-fair
