use Rattle.md_columns.proofs.Fairness.{fair-fits}
use Rattle.md_columns.proofs.laws.widths_keep_to_the_budget.Goals as goal

pub returns : goal.returns
returns c = fair-fits
