use Rattle.std.proofs.Common.{◌≡◌, ◌≤◌, ◌-◌, drop}
use Rattle.term_text.specs.LineIter.{line_left}
use Rattle.term_text.proofs.line_graphs.LineGraphemes.pass.Given as goal

abbrev pub invariant-loop-more : goal.invariant-loop-more
invariant-loop-more l = (line_left l.self ≡ drop (l.n - l.more) (line_left l.initial.self)) × (l.more ≤ l.n)

abbrev pub decreases-loop-more : goal.decreases-loop-more
decreases-loop-more l = l.more
