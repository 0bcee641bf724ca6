use Rattle.term_widgets.proofs.RowLemmas.{views_agree}
use Rattle.term_widgets.proofs.laws.views_agree.Goals as goal

pub returns : goal.returns
returns c = views_agree
