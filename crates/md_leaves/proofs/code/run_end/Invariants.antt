use Rattle.std.proofs.Common.{length, drop, ◌≡◌, ◌≤◌, ◌+◌, ◌-◌}
use Rattle.std.specs.Option.{option_map}
use Rattle.md_leaves.specs.Code.{run_end}
use Rattle.md_leaves.proofs.code.run_end.Given as goal

abbrev pub invariant-loop-at : goal.invariant-loop-at
invariant-loop-at l = (l.at ≤ length l.bytes) × (l.before ≤ l.at) × (option_map (λ k. l.at + k) (run_end l.n l.before (drop l.at l.bytes)) ≡ run_end l.n 0 l.bytes)

abbrev pub decreases-loop-at : goal.decreases-loop-at
decreases-loop-at l = length l.bytes - l.at
