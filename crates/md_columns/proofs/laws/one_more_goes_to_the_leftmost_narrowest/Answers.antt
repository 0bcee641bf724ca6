use Rattle.md_columns.proofs.Growing.{grows-narrowest}
use Rattle.md_columns.proofs.laws.one_more_goes_to_the_leftmost_narrowest.Goals as goal

pub returns : goal.returns
returns c = grows-narrowest
