use Rattle.std.specs.Prelude.{chars}
use Rattle.std.specs.Str.Iter.{chars_rest}
use Rattle.term_widgets.proofs.MascotLemmas.{PairsDrawn}
use Rattle.term_widgets.proofs.mascot.RatatuiMascot.draw_row.Given as goal

abbrev pub invariant-pairs : goal.invariant-pairs
invariant-pairs l = PairsDrawn l.self.eye l.fn.area l.row l.x (chars (chars_rest l.uppers)) (chars (chars_rest l.lowers)) l.initial.buf l.buf
