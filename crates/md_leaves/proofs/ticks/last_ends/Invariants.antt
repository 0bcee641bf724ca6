use Rattle.std.proofs.Common.{length, ◌-◌}
use Rattle.md_leaves.proofs.TickLemmas.{Ends}
use Rattle.md_leaves.proofs.ticks.last_ends.Given as goal

abbrev pub invariant-loop-at : goal.invariant-loop-at
invariant-loop-at l = Ends l.source l.at l.ends.items

abbrev pub decreases-loop-at : goal.decreases-loop-at
decreases-loop-at l = length l.source - l.at
