use Rattle.std.proofs.Common.{refl}
use Rattle.std.proofs.lemmas.Str.{chars-nil}
use Rattle.term_text.specs.Iter.{graphs_left, pieces_left, plain_left, stretch_left}
use Rattle.term_text.proofs.GraphLemmas.{stretch-graphemes}
use Rattle.term_text.proofs.graphs.Graphemes.of_stretch.Goals as goal

pub returns : goal.returns
unfolding graphs_left pieces_left plain_left stretch_left
returns c = rw chars-nil (stretch-graphemes c.args.style c.args.text.now _ c.requires refl)
