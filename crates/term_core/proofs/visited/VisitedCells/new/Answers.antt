use Rattle.std.proofs.Common.{refl}
use Rattle.term_core.specs.VisitedIter.{visited_left}
use Rattle.term_core.proofs.visited.VisitedCells.new.Goals as goal

pub returns : goal.returns
unfolding visited_left
returns c = refl
