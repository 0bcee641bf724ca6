use Rattle.term_widgets.proofs.ViewLemmas.{rows_of-take}
use Rattle.term_widgets.proofs.laws.page_rows_take_the_width.Goals as goal

pub returns : goal.returns
returns c = rows_of-take
