use Rattle.std.proofs.Common.{◌≡◌, length, []}
use Rattle.term_text.specs.Iter.{pieces_left, plain_left, stretch_left, graphs_left}
use Rattle.term_text.proofs.graphs.Graphemes.next_shown.Given as goal

abbrev pub invariant-loop-piece : goal.invariant-loop-piece
invariant-loop-piece l = (graphs_left l.self ≡ graphs_left l.initial.self) × (stretch_left l.self ≡ []) × (plain_left l.self ≡ [])

abbrev pub decreases-loop-piece : goal.decreases-loop-piece
decreases-loop-piece l = length (pieces_left l.self)
