use Rattle.term_core.proofs.StyleLemmas.{StyledTo}
use Rattle.term_core.proofs.buffer.Buffer.set_style.Given as goal

abbrev pub invariant-cells : goal.invariant-cells
invariant-cells l = StyledTo l.cut l.style l.at l.initial.self l.self
