use Rattle.md_columns.proofs.Fairness.{taken}
use Rattle.md_columns.proofs.laws.more_is_taken_from_no_narrower_column.Goals as goal

pub returns : goal.returns
returns c = taken
