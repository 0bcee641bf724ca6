use Rattle.std.proofs.Common.{◌≡◌, ◌-◌, length}
use Rattle.term_text.specs.LineIter.{line_left}
use Rattle.term_text.proofs.line_graphs.LineGraphemes.refill.Given as goal

abbrev pub invariant-loop-self : goal.invariant-loop-self
invariant-loop-self l = line_left l.self ≡ line_left l.initial.self

abbrev pub decreases-loop-self : goal.decreases-loop-self
decreases-loop-self l = length l.self.spans.now - l.self.place
