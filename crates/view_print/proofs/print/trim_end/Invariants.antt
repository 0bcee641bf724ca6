use Rattle.std.proofs.Common.{◌-◌}
use Rattle.view_print.proofs.PrintLemmas.{TrimsTo}
use Rattle.view_print.proofs.print.trim_end.Given as goal

abbrev pub invariant-end : goal.invariant-end
invariant-end l = TrimsTo l.out.items l.start l.end

abbrev pub decreases-end : goal.decreases-end
decreases-end l = l.end - l.start
