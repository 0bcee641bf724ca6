use Rattle.std.proofs.Common.{◌==◌, ◌&&◌}
use Rattle.term_widgets.proofs.BlockLemmas.{symbol_set}
use Rattle.term_widgets.proofs.ChangeLemmas.{Changed, in_stretch}
use Rattle.term_widgets.proofs.block.draw_row.Given as goal

abbrev pub invariant-row : goal.invariant-row
invariant-row l = Changed (symbol_set l.c) (λ p q. in_stretch l.x l.at p && (q == l.y)) l.initial.buf l.buf
