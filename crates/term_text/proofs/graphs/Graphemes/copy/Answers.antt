use Rattle.std.proofs.Common.{rules}
use Rattle.term_text.specs.Iter.{graphs_left, pieces_left, plain_left, stretch_left}
use Rattle.term_text.proofs.graphs.Graphemes.copy.Goals as goal

pub returns : goal.returns
unfolding graphs_left pieces_left plain_left stretch_left
returns c = search rules
