use Rattle.std.proofs.Common.{ap, ◌∙◌}
use Rattle.term_text.specs.Cut.{cut_from}
use Rattle.term_text.specs.LineIter.{line_left}
use Rattle.term_text.specs.Walk.{cut_left}
use Rattle.term_text.proofs.CutLemmas.{cut_from-whole}
use Rattle.term_text.proofs.walk.cut_at.Goals as goal

pub row-init : goal.row-init
unfolding cut_left
row-init c = ap (cut_from c.args.width 0 0) c.copy.ensures

pub returns-in-Some : goal.returns-in-Some
returns-in-Some c = c.in-Some.ensures ∙ c.row.invariant ∙ cut_from-whole c.args.width (line_left c.args.graphs.now)
