use Rattle.std.specs.Str.{chars}
use Rattle.term_text.specs.Graph.{visible}
use Rattle.term_text.specs.Iter.{graphs_left, pieces_left, plain_left, stretch_left}
use Rattle.term_text.proofs.SolidLemmas.{AreSolid-plain, AreSolid-none}
use Rattle.term_text.proofs.graphs.Graphemes.pass_solid.Goals as goal

pub returns-clause-solid : goal.returns-clause-solid
unfolding graphs_left pieces_left plain_left stretch_left
returns-clause-solid c =
    let s = c.args.self.now in
    let passed = c.solid_front-count.result in
    AreSolid-plain s.style (stretch_left s) (chars s.plain.now) (chars passed.1.now) (visible s.style (pieces_left s)) passed.0 c.requires c.solid_front-count.ensures.front

pub returns-clause-none : goal.returns-clause-none
unfolding graphs_left pieces_left plain_left stretch_left
returns-clause-none c none =
    let s = c.args.self.now in
    let passed = c.solid_front-count.result in
    AreSolid-none passed.0 _ _ none
    (AreSolid-plain s.style (stretch_left s) (chars s.plain.now) (chars passed.1.now) (visible s.style (pieces_left s)) passed.0 c.requires c.solid_front-count.ensures.front)
