use Rattle.md_picture.proofs.LeastLemmas.{lines-fit}
use Rattle.md_picture.proofs.laws.a_picture_fits_where_the_least_widths_do.Goals as goal

pub returns : goal.returns
returns c = lines-fit
