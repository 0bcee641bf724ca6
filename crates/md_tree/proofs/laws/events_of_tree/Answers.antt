use Rattle.md_tree.proofs.Trees.{events-tree_of}
use Rattle.md_tree.proofs.laws.events_of_tree.Goals as goal

pub returns : goal.returns
returns c = events-tree_of
