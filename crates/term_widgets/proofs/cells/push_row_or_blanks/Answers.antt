use Rattle.term_widgets.proofs.RowLemmas.{cells-nil}
use Rattle.term_widgets.proofs.cells.push_row_or_blanks.Goals as goal

pub returns-in-None-clause-items : goal.returns-in-None-clause-items
returns-in-None-clause-items c = rw (c.in-None.is, cells-nil) c.push_blanks.ensures
