use Rattle.term_widgets.proofs.RowLemmas.{slice_get-view}
use Rattle.term_widgets.proofs.laws.rows_of_a_view.Goals as goal

pub returns : goal.returns
returns c = slice_get-view
