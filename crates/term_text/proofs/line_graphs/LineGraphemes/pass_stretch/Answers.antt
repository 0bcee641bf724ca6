use Rattle.std.proofs.Common.{◌∙◌}
use Rattle.term_text.specs.LineIter.{line_left}
use Rattle.term_text.proofs.LineLemmas.{drop-current, within_stretch}
use Rattle.term_text.proofs.line_graphs.LineGraphemes.pass_stretch.Goals as goal

pub returns : goal.returns
unfolding line_left
returns c =
    c.refill.ensures ∙ drop-current c.args.n _ _ _ (within_stretch c.args.self.now.current c.args.n c.requires) c.pass_stretch.ensures
