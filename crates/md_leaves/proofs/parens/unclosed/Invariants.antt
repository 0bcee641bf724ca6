use Rattle.std.proofs.Common.{length, ◌≤◌, ◌+◌}
use Rattle.std.specs.List.{All}
use Rattle.md_leaves.specs.Ahead.{IsStop}
use Rattle.md_leaves.proofs.StopLemmas.{IsShort}
use Rattle.md_leaves.proofs.parens.unclosed.Given as goal

abbrev pub invariant-loop-at : goal.invariant-loop-at
invariant-loop-at l = record {
  within : l.at ≤ length l.source;
  few : l.closers + l.at ≤ length l.source;
  short : IsShort l.source l.at l.closers;
  stops : All (λ at. IsStop l.source at) l.stops.items;
}

abbrev pub decreases-loop-at : goal.decreases-loop-at
decreases-loop-at l = l.at
