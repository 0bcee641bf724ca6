use Rattle.std.proofs.Common.{refl, ◌∙◌}
use Rattle.term_text.specs.LineIter.{line_left}
use Rattle.term_text.proofs.line_graphs.LineGraphemes.new.Goals as goal

pub returns : goal.returns
unfolding line_left
returns c = c.refill.ensures ∙ rw (c.none.ensures, c.style-under.ensures, c.spans.ensures) refl
