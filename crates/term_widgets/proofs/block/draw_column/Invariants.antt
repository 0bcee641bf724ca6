use Rattle.std.proofs.Common.{◌==◌, ◌&&◌}
use Rattle.term_widgets.proofs.BlockLemmas.{symbol_set}
use Rattle.term_widgets.proofs.ChangeLemmas.{Changed, in_stretch}
use Rattle.term_widgets.proofs.block.draw_column.Given as goal

abbrev pub invariant-column : goal.invariant-column
invariant-column l = Changed (symbol_set l.c) (λ p q. (p == l.x) && in_stretch l.y l.at q) l.initial.buf l.buf
