use Rattle.std.proofs.Common.{length, drop, ◌≡◌, ◌≤◌, ◌-◌, ◌++◌}
use Rattle.md_runs.specs.Brackets.{singles}
use Rattle.md_runs.proofs.part.singles.Given as goal

abbrev pub invariant-loop-at : goal.invariant-loop-at
invariant-loop-at l = (l.at ≤ length l.leaves) × (l.parts.items ++ singles (drop l.at l.leaves) ≡ singles l.leaves)

abbrev pub decreases-loop-at : goal.decreases-loop-at
decreases-loop-at l = length l.leaves - l.at
