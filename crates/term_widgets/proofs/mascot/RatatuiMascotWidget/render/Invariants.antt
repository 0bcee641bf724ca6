use Rattle.term_widgets.proofs.MascotLemmas.{RowsDrawn}
use Rattle.term_widgets.proofs.mascot.RatatuiMascotWidget.render.Given as goal

abbrev pub invariant-rows : goal.invariant-rows
invariant-rows l = RowsDrawn l.self.eye l.cut l.row l.initial.buf l.buf
