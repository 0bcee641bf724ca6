use Rattle.std.proofs.Common.{length, drop, ◌≡◌, ◌≤◌, ◌-◌, ◌++◌}
use Rattle.md_runs.proofs.pair.copied.Given as goal

abbrev pub invariant-loop-at : goal.invariant-loop-at
invariant-loop-at l = (l.at ≤ length l.parts) × (l.same.items ++ drop l.at l.parts ≡ l.parts)

abbrev pub decreases-loop-at : goal.decreases-loop-at
decreases-loop-at l = length l.parts - l.at
