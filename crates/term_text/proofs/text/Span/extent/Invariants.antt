use Rattle.std.proofs.Common.{◌≡◌, ◌+◌, ◌-◌, ◌^◌, ◌≤◌, min, max, length}
use Rattle.term_text.specs.Graph.{columns, widest, visible, pieces_of}
use Rattle.term_text.specs.Iter.{graphs_left}
use Rattle.term_text.proofs.text.Span.extent.Given as goal

abbrev pub invariant-graphs : goal.invariant-graphs
invariant-graphs l =
    (min (l.extent.columns + columns (graphs_left l.rest)) (2 ^ 64 - 1) ≡ min (columns (visible l.self.style (pieces_of l.self))) (2 ^ 64 - 1))
    × (l.extent.columns ≤ 2 ^ 64 - 1)
    × (max l.extent.widest (widest (graphs_left l.rest)) ≡ widest (visible l.self.style (pieces_of l.self)))

abbrev pub decreases-graphs : goal.decreases-graphs
decreases-graphs l = length (graphs_left l.rest)
