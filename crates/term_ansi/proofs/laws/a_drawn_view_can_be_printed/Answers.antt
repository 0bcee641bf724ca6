use Rattle.term_ansi.proofs.ViewLemmas.{no-bad-view, clean-view}
use Rattle.term_ansi.proofs.laws.a_drawn_view_can_be_printed.Goals as goal

pub returns-clause-good : goal.returns-clause-good
returns-clause-good c = no-bad-view

pub returns-clause-clean : goal.returns-clause-clean
returns-clause-clean c = clean-view
