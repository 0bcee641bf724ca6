use Rattle.term_widgets.proofs.ViewLemmas.{cells_agree}
use Rattle.term_widgets.proofs.laws.views_agree_cell_by_cell.Goals as goal

pub returns : goal.returns
returns c = cells_agree
