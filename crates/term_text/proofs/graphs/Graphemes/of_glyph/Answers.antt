use Rattle.std.proofs.Common.{refl}
use Rattle.std.proofs.lemmas.Str.{chars-nil}
use Rattle.term_text.specs.Iter.{graphs_left, pieces_left, plain_left, stretch_left}
use Rattle.term_text.proofs.graphs.Graphemes.of_glyph.Goals as goal

pub returns : goal.returns
unfolding graphs_left pieces_left plain_left stretch_left
returns c = rw chars-nil refl
