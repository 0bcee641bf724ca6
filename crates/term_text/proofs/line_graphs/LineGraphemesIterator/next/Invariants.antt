use Rattle.std.proofs.Common.{◌≡◌, ◌-◌, length}
use Rattle.term_text.specs.LineIter.{line_left}
use Rattle.term_text.proofs.line_graphs.LineGraphemesIterator.next.Given as goal

abbrev pub invariant-spans : goal.invariant-spans
invariant-spans l = line_left l.self ≡ line_left l.initial.self

abbrev pub decreases-spans : goal.decreases-spans
decreases-spans l = length l.self.spans.now - l.self.place
