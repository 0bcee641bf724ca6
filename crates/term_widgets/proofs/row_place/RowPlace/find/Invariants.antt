use Rattle.std.proofs.Common.{◌≡◌, ◌-◌, ◌<◌, ◌≤◌, length, take}
use Rattle.std.specs.List.{sum}
use Rattle.term_widgets.proofs.HalvingLemmas.{Halved}
use Rattle.term_widgets.proofs.row_place.RowPlace.find.Given as goal

abbrev pub invariant-halves : goal.invariant-halves
invariant-halves g l = record {
  ordered : l.line < l.end;
  within : l.end ≤ length l.index;
  start : l.start ≡ sum (take l.line l.index);
  from : l.start ≤ l.row;
  to : l.row < sum (take l.end l.index);
  halved : Halved g.L.Ledger.noted (length l.index) (l.end - l.line) l.fn.probes l.probes;
}

abbrev pub decreases-halves : goal.decreases-halves
decreases-halves g l = l.end - l.line
