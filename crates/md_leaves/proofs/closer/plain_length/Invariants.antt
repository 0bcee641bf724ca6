use Rattle.std.proofs.Common.{length, ◌-◌}
use Rattle.md_leaves.proofs.PlainLemmas.{Reads}
use Rattle.md_leaves.proofs.closer.plain_length.Given as goal

abbrev pub invariant-loop-at : goal.invariant-loop-at
invariant-loop-at l = Reads l.bytes l.at l.level l.end

abbrev pub decreases-loop-at : goal.decreases-loop-at
decreases-loop-at l = length l.bytes - l.at
