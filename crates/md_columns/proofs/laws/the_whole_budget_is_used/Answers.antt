use Rattle.md_columns.proofs.Fairness.{whole_budget}
use Rattle.md_columns.proofs.laws.the_whole_budget_is_used.Goals as goal

pub returns : goal.returns
returns c = whole_budget
