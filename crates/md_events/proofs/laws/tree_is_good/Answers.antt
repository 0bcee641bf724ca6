use Rattle.md_events.proofs.GoodBlocks.{tree-good}
use Rattle.md_events.proofs.laws.tree_is_good.Goals as goal

pub returns : goal.returns
returns c = λ text small. tree-good text small
