use Rattle.std.proofs.Common.{◌≡◌, ◌+◌, ◌-◌, ◌^◌, ◌≤◌, min, max, drop}
use Rattle.term_text.specs.Graph.{columns, graphs, spans_graphs, widest}
use Rattle.term_text.proofs.text.Line.extent.Given as goal

abbrev pub invariant-loop-span : goal.invariant-loop-span
invariant-loop-span l =
    (min (l.extent.columns + columns (spans_graphs l.self.style (drop l.span-index l.span-items))) (2 ^ 64 - 1) ≡ min (columns (graphs l.self)) (2 ^ 64 - 1))
    × (l.extent.columns ≤ 2 ^ 64 - 1)
    × (max l.extent.widest (widest (spans_graphs l.self.style (drop l.span-index l.span-items))) ≡ widest (graphs l.self))
