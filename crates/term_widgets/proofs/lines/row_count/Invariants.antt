use Rattle.std.proofs.Common.{◌≡◌, ◌+◌, length}
use Rattle.term_core.specs.Graph.{graphs}
use Rattle.term_core.specs.Rows.{rows_left}
use Rattle.term_core.specs.Wrap.{wrap}
use Rattle.term_widgets.proofs.lines.row_count.Given as goal

abbrev pub invariant-rows : goal.invariant-rows
invariant-rows l = l.count + length (rows_left l.cutter) ≡ length (wrap l.width (graphs l.line))

abbrev pub decreases-rows : goal.decreases-rows
decreases-rows l = length (rows_left l.cutter)
