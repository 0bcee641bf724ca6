use Rattle.std.proofs.Common.{refl}
use Rattle.term_widgets.specs.PageRows.{later_rows}
use Rattle.term_widgets.proofs.page_rows.PageRows.next_of_line.Goals as goal

pub returns-in_err-cutter-clause-later : goal.returns-in_err-cutter-clause-later
unfolding later_rows
returns-in_err-cutter-clause-later g c = refl

pub returns-clause-later : goal.returns-clause-later
unfolding later_rows
returns-clause-later g c = refl
