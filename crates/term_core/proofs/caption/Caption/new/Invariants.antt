use Rattle.std.proofs.Common.{◌≡◌, ◌++◌, ◌+◌, length}
use Rattle.term_text.specs.Graph.{graphs}
use Rattle.term_text.specs.LineIter.{line_left}
use Rattle.term_core.specs.Caption.{fitted, strokes}
use Rattle.term_core.proofs.caption.Caption.new.Given as goal

-- the strokes so far and those of the graphemes that still fit are all, and the room is what is left
abbrev pub invariant-graphs : goal.invariant-graphs
invariant-graphs l =
    record {
      items : l.strokes.items ++ strokes (fitted l.room (line_left l.rest)) ≡ strokes (fitted l.width (graphs l.line));
      len : length l.strokes.items + l.room ≡ l.width;
    }

abbrev pub decreases-graphs : goal.decreases-graphs
decreases-graphs l = length (line_left l.rest)
