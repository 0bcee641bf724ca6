use Rattle.std.proofs.Common.{length, ◌-◌, ◌≡◌, ◌+◌, ◌≤◌, drop}
use Rattle.term_text.specs.Cut.{leading_spaces}
use Rattle.term_text.proofs.printable.leading_spaces.Given as goal

abbrev pub invariant-loop-at : goal.invariant-loop-at
invariant-loop-at l = (l.at + leading_spaces (drop l.at l.bytes) ≡ leading_spaces l.bytes) × (l.at ≤ length l.bytes)

abbrev pub decreases-loop-at : goal.decreases-loop-at
decreases-loop-at l = length l.bytes - l.at
