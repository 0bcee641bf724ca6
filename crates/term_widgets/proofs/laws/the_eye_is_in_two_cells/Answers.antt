use Rattle.term_widgets.proofs.PictureLemmas.{eye-left, eye-right, same_but_eye}
use Rattle.term_widgets.proofs.laws.the_eye_is_in_two_cells.Goals as goal

pub returns-clause-left : goal.returns-clause-left
returns-clause-left c = eye-left

pub returns-clause-right : goal.returns-clause-right
returns-clause-right c = eye-right

pub returns-clause-others : goal.returns-clause-others
returns-clause-others c = same_but_eye
