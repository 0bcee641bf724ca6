use Rattle.std.proofs.Common.{refl}
use Rattle.term_core.specs.BufferRowsIter.{buffer_rows_left}
use Rattle.term_core.proofs.buffer_rows.BufferRows.new.Goals as goal

pub returns : goal.returns
unfolding buffer_rows_left
returns c = refl
