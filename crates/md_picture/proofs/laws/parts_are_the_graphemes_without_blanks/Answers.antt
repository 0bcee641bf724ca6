use Rattle.md_picture.proofs.Keeping.{parts-thinned}
use Rattle.md_picture.proofs.laws.parts_are_the_graphemes_without_blanks.Goals as goal

pub returns : goal.returns
returns c = parts-thinned
