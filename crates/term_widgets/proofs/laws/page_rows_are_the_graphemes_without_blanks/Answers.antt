use Rattle.term_widgets.proofs.ThinnedLemmas.{Thinned-rows_of}
use Rattle.term_widgets.proofs.laws.page_rows_are_the_graphemes_without_blanks.Goals as goal

pub returns : goal.returns
returns c = Thinned-rows_of
