use Rattle.std.proofs.Common.{length, drop, ◌≡◌, ◌≤◌, ◌+◌, ◌-◌}
use Rattle.std.specs.List.{prefix_len}
use Rattle.md_leaves.specs.Bytes.{holds}
use Rattle.md_leaves.proofs.bytes.stretch.Given as goal

abbrev pub invariant-loop-at : goal.invariant-loop-at
invariant-loop-at l = (l.at ≤ length l.bytes) × (l.at + prefix_len (λ b. holds l.class b) (drop l.at l.bytes) ≡ prefix_len (λ b. holds l.class b) l.bytes)

abbrev pub decreases-loop-at : goal.decreases-loop-at
decreases-loop-at l = length l.bytes - l.at
