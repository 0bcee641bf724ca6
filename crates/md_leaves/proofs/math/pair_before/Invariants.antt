use Rattle.std.proofs.Common.{length, drop, ◌≡◌, ◌≤◌, ◌+◌, ◌-◌}
use Rattle.std.specs.Option.{option_map}
use Rattle.md_leaves.specs.Math.{pair_before}
use Rattle.md_leaves.proofs.math.pair_before.Given as goal

abbrev pub invariant-loop-at : goal.invariant-loop-at
invariant-loop-at l = (l.at ≤ length l.bytes) × (option_map (λ k. l.at + k) (pair_before (drop l.at l.bytes)) ≡ pair_before l.bytes)

abbrev pub decreases-loop-at : goal.decreases-loop-at
decreases-loop-at l = length l.bytes - l.at
