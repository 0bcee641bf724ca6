use Rattle.term_widgets.proofs.PictureLemmas.{dot-bounds}
use Rattle.term_widgets.proofs.laws.the_picture_is_of_seven_kinds_of_dots.Goals as goal

pub returns : goal.returns
returns c = dot-bounds
