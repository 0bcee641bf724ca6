use Rattle.std.proofs.Common.{refl}
use Rattle.term_text.specs.LineIter.{line_left}
use Rattle.term_text.proofs.line_graphs.LineGraphemes.copy.Goals as goal

pub returns : goal.returns
unfolding line_left
returns c = rw c.copy.ensures refl
