use Rattle.md_tree.proofs.Trees.{tree_of-events}
use Rattle.md_tree.proofs.laws.tree_of_events.Goals as goal

pub returns : goal.returns
returns c = tree_of-events
