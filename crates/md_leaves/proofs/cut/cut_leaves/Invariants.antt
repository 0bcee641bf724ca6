use Rattle.std.proofs.Common.{length, ◌-◌}
use Rattle.md_leaves.specs.Ahead.{Knows}
use Rattle.md_leaves.proofs.LeafLemmas.{Cuts}
use Rattle.md_leaves.proofs.cut.cut_leaves.Given as goal

abbrev pub invariant-loop-at : goal.invariant-loop-at
invariant-loop-at l = record { cuts : Cuts l.source l.at l.leaves.items; known : Knows l.source l.ahead }

abbrev pub decreases-loop-at : goal.decreases-loop-at
decreases-loop-at l = length l.source - l.at
