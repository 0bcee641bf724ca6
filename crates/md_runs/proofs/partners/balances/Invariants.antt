use Rattle.md_runs.proofs.Balance.{Matches}
use Rattle.md_runs.proofs.partners.balances.Given as goal

abbrev pub invariant-loop-at : goal.invariant-loop-at
invariant-loop-at l = Matches l.leaves l.at l.unmatched.items l.found.items

abbrev pub decreases-loop-at : goal.decreases-loop-at
decreases-loop-at l = l.at
