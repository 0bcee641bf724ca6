use Rattle.std.proofs.Common.{length, drop, ◌-◌, ◌≡◌, ◌++◌}
use Rattle.md_rules.specs.Quotes.{quoted}
use Rattle.md_rules.proofs.quote.quoted.Given as goal

abbrev pub invariant-loop-at : goal.invariant-loop-at
invariant-loop-at l = l.inside.items ++ quoted (drop l.at l.lines) ≡ quoted l.lines

abbrev pub decreases-loop-at : goal.decreases-loop-at
decreases-loop-at l = length l.lines - l.at
