use Rattle.std.proofs.Common.{◌≡◌, length}
use Rattle.term_text.specs.LineIter.{line_left}
use Rattle.term_text.specs.Wrap.{skip_blanks}
use Rattle.term_text.proofs.line_graphs.LineGraphemes.pass_blanks.Given as goal

abbrev pub invariant-blanks : goal.invariant-blanks
invariant-blanks l = skip_blanks (line_left l.self) ≡ skip_blanks (line_left l.initial.self)

abbrev pub decreases-blanks : goal.decreases-blanks
decreases-blanks l = length (line_left l.self)
