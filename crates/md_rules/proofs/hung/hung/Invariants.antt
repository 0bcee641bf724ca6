use Rattle.std.proofs.Common.{length, drop, map, ◌-◌, ◌≡◌, ◌++◌}
use Rattle.md_rules.specs.Hung.{hung}
use Rattle.md_rules.specs.Quotes.{less}
use Rattle.md_rules.proofs.hung.hung.Given as goal

abbrev pub invariant-loop-at : goal.invariant-loop-at
invariant-loop-at l = l.lines.items ++ map (less l.column) (drop l.at l.own) ≡ hung l.column l.fn.first l.own

abbrev pub decreases-loop-at : goal.decreases-loop-at
decreases-loop-at l = length l.own - l.at
