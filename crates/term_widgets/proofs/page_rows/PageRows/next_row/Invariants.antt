use Rattle.std.proofs.Common.{◌≡◌, ◌-◌, length}
use Rattle.term_widgets.specs.PageRows.{page_left}
use Rattle.term_widgets.proofs.page_rows.PageRows.next_row.Given as goal

abbrev pub invariant-lines : goal.invariant-lines
invariant-lines g l = record {
  left : page_left l.self ≡ page_left l.initial.self;
  ticks : g.L.Ledger.noted 0 l.initial.steps l.steps;
}

abbrev pub decreases-lines : goal.decreases-lines
decreases-lines g l = length l.self.lines.now - l.self.place
