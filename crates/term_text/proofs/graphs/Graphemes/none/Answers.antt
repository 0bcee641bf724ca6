use Rattle.std.proofs.Common.{refl, arith}
use Rattle.term_text.proofs.GraphLemmas.{graphs_left-passed}
use Rattle.term_text.proofs.graphs.Graphemes.none.Goals as goal

pub returns : goal.returns
returns c = graphs_left-passed _ (omega arith) refl refl refl
