use Rattle.ansi_text.proofs.StyleLemmas.{patch-after_pieces}
use Rattle.ansi_text.proofs.laws.codes_make_a_style_that_patches_the_first.Goals as goal

pub returns : goal.returns
returns c = patch-after_pieces
