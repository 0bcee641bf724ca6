use Rattle.std.proofs.Common.{drop, ap, ◌∙◌}
use Rattle.term_text.specs.Iter.{stretch_left}
use Rattle.term_text.proofs.EndLemmas.{take-rest}
use Rattle.term_text.proofs.graphs.Graphemes.stretch.Goals as goal

pub returns : goal.returns
unfolding stretch_left
returns c = take-rest c.args.self.now.passed c.as_bytes.result.now ∙ ap (drop c.args.self.now.passed) c.as_bytes.ensures.value
