use Rattle.md_picture.proofs.Greatest.{height-greatest, row-greatest}
use Rattle.md_picture.proofs.laws.a_row_is_as_high_as_its_highest_cell.Goals as goal

pub returns-clause-lines : goal.returns-clause-lines
returns-clause-lines c = row-greatest

pub returns-clause-counted : goal.returns-clause-counted
returns-clause-counted c = height-greatest
