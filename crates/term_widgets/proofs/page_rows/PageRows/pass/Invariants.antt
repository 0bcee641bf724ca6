use Rattle.std.proofs.Common.{◌≡◌, length, drop}
use Rattle.std.specs.Prelude.{min}
use Rattle.term_widgets.specs.PageRows.{page_left}
use Rattle.term_widgets.proofs.page_rows.PageRows.pass.Given as goal

abbrev pub invariant-loop-i : goal.invariant-loop-i
invariant-loop-i g l = record {
  rest : page_left l.self ≡ drop l.i (page_left l.initial.self);
  ticks : g.L.Ledger.noted (min l.i (length (page_left l.initial.self))) l.initial.steps l.steps;
}
