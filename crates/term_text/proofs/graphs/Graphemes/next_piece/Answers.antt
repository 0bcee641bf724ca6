use Rattle.std.proofs.Common.{arith}
use Rattle.std.proofs.lemmas.Grind.{common_steps}
use Rattle.term_text.specs.Iter.{pieces_left, plain_left, stretch_left}
use Rattle.term_text.proofs.graphs.Graphemes.next_piece.Goals as goal

pub returns-in-Some-clause-piece : goal.returns-in-Some-clause-piece
unfolding pieces_left stretch_left
returns-in-Some-clause-piece c = grind (arith, common_steps)

pub returns-in-Some-pieces-clause-piece : goal.returns-in-Some-pieces-clause-piece
unfolding pieces_left stretch_left
returns-in-Some-pieces-clause-piece c = grind (arith, common_steps)

pub returns-in-None-clause-piece : goal.returns-in-None-clause-piece
unfolding pieces_left stretch_left
returns-in-None-clause-piece c = grind (arith, common_steps)

pub returns-in-Some-clause-stretch : goal.returns-in-Some-clause-stretch
unfolding stretch_left
returns-in-Some-clause-stretch c = grind (arith, common_steps)

pub returns-in-Some-pieces-clause-stretch : goal.returns-in-Some-pieces-clause-stretch
unfolding stretch_left
returns-in-Some-pieces-clause-stretch c = grind (arith, common_steps)

pub returns-in-None-clause-stretch : goal.returns-in-None-clause-stretch
unfolding stretch_left
returns-in-None-clause-stretch c = grind (arith, common_steps)

pub returns-in-Some-clause-plain : goal.returns-in-Some-clause-plain
unfolding plain_left
returns-in-Some-clause-plain c = grind (arith, common_steps)

pub returns-in-Some-pieces-clause-plain : goal.returns-in-Some-pieces-clause-plain
unfolding plain_left
returns-in-Some-pieces-clause-plain c = grind (arith, common_steps)

pub returns-in-None-clause-plain : goal.returns-in-None-clause-plain
unfolding plain_left
returns-in-None-clause-plain c = grind (arith, common_steps)
