use Rattle.term_text.proofs.RowLemmas.{Thinned-wrap}
use Rattle.term_text.proofs.laws.rows_are_the_graphemes_without_blanks.Goals as goal

pub returns : goal.returns
returns c = Thinned-wrap
