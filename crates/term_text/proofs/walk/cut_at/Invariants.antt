use Rattle.std.proofs.Common.{◌≡◌, length}
use Rattle.term_text.specs.Cut.{cut_from}
use Rattle.term_text.specs.LineIter.{line_left}
use Rattle.term_text.specs.Walk.{cut_left}
use Rattle.term_text.proofs.walk.cut_at.Given as goal

abbrev pub invariant-row : goal.invariant-row
invariant-row l = cut_left l.walk ≡ cut_from l.width 0 0 (line_left l.graphs)

abbrev pub decreases-row : goal.decreases-row
decreases-row l = length (line_left l.walk.ahead)
