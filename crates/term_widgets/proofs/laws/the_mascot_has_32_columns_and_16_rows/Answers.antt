use Rattle.term_widgets.proofs.PictureLemmas.{mascot_cell-last_column, mascot_cell-last_row, mascot_cell-past}
use Rattle.term_widgets.proofs.laws.the_mascot_has_32_columns_and_16_rows.Goals as goal

pub returns-clause-column : goal.returns-clause-column
returns-clause-column c = mascot_cell-last_column

pub returns-clause-row : goal.returns-clause-row
returns-clause-row c = mascot_cell-last_row

pub returns-clause-past : goal.returns-clause-past
returns-clause-past c = mascot_cell-past
