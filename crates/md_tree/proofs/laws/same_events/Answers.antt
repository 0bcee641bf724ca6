use Rattle.md_tree.proofs.Trees.{events-injective}
use Rattle.md_tree.proofs.laws.same_events.Goals as goal

pub returns : goal.returns
returns c = events-injective
