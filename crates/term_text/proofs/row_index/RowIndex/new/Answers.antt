use Rattle.std.proofs.Common.{ap}
use Rattle.term_text.specs.RowIndex.{counts_after, rises}
use Rattle.term_text.proofs.row_index.RowIndex.new.Goals as goal

pub invariant_of-result : goal.invariant_of-result
unfolding rises
invariant_of-result c = ap (rises 0) c.new.ensures.items

pub returns : goal.returns
unfolding counts_after
returns c = ap (counts_after 0) c.new.ensures.items
