use Rattle.std.proofs.Common.{length}
use Rattle.reader_examples.proofs.rules.cells_shown.Given as goal

abbrev pub decreases-loop-cell : goal.decreases-loop-cell
decreases-loop-cell l = length l.cells
