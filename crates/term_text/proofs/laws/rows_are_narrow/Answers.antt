use Rattle.term_text.proofs.RowLemmas.{AllNarrow-wrap}
use Rattle.term_text.proofs.laws.rows_are_narrow.Goals as goal

pub returns : goal.returns
returns c = AllNarrow-wrap
