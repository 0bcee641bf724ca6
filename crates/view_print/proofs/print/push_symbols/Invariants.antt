use Rattle.std.proofs.Common.{◌≡◌, ◌++◌}
use Rattle.term_core.specs.Visited.{visited}
use Rattle.term_core.specs.VisitedIter.{visited_left}
use Rattle.view_print.specs.Print.{symbols}
use Rattle.view_print.proofs.print.push_symbols.Given as goal

abbrev pub invariant-cells : goal.invariant-cells
invariant-cells l = l.out.items ++ symbols (visited_left l.rest) ≡ l.initial.out.items ++ symbols (visited l.row)
