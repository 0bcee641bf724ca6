use Rattle.std.proofs.Common.{length, drop, ◌≡◌, ◌≤◌, ◌-◌, ◌++◌}
use Rattle.md_runs.specs.Brackets.{parts}
use Rattle.md_runs.specs.Partners.{balances}
use Rattle.md_runs.proofs.part.parts.Given as goal

abbrev pub invariant-loop-at : goal.invariant-loop-at
invariant-loop-at l = record {
  within : l.at ≤ length l.leaves;
  closers : l.closers ≡ balances l.leaves;
  so_far : l.parts.items ++ parts l.in_link (drop l.at l.leaves) ≡ parts l.in_link l.leaves;
}

abbrev pub decreases-loop-at : goal.decreases-loop-at
decreases-loop-at l = length l.leaves - l.at
