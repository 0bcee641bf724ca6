use Rattle.std.proofs.Common.{length, drop, ◌-◌, ◌+◌, ◌≡◌, ◌≤◌}
use Rattle.md_rules.specs.Fences.{fenced}
use Rattle.md_rules.proofs.fence.Fence.content.Given as goal

abbrev pub invariant-loop-at : goal.invariant-loop-at
invariant-loop-at l = (l.at ≤ length l.lines) × (l.at + fenced l.self (drop l.at l.lines) ≡ fenced l.self l.lines)

abbrev pub decreases-loop-at : goal.decreases-loop-at
decreases-loop-at l = length l.lines - l.at
