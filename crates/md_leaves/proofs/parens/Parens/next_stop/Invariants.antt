use Rattle.std.proofs.Common.{length}
use Rattle.std.specs.List.{All}
use Rattle.md_leaves.specs.Ahead.{IsStop}
use Rattle.md_leaves.proofs.parens.Parens.next_stop.Given as goal

abbrev pub invariant-loop-next : goal.invariant-loop-next
invariant-loop-next l = All (λ at. IsStop l.source at) l.self.stops.items

abbrev pub decreases-loop-next : goal.decreases-loop-next
decreases-loop-next l = length l.self.stops.items
