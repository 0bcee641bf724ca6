use Rattle.md_columns.proofs.Fairness.{within-fair}
use Rattle.md_columns.proofs.laws.widths_lie_within_the_bounds.Goals as goal

pub returns : goal.returns
returns c = within-fair
