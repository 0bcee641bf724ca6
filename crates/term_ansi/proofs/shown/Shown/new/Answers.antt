use Rattle.std.proofs.Common.{refl}
use Rattle.term_ansi.specs.ShownIter.{shown_left}
use Rattle.term_ansi.proofs.shown.Shown.new.Goals as goal

pub returns : goal.returns
unfolding shown_left
returns c = refl
