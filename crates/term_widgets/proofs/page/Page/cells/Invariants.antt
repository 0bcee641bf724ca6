use Rattle.std.proofs.Common.{◌+◌, ◌-◌, length}
use Rattle.std.specs.Prelude.{min}
use Rattle.term_widgets.specs.Page.{line_counts, page_rows}
use Rattle.term_widgets.specs.PageRows.{page_left}
use Rattle.term_widgets.specs.RowPlace.{rows_above}
use Rattle.term_widgets.proofs.RowLemmas.{Drawn}
use Rattle.term_widgets.proofs.page.Page.cells.Given as goal

abbrev pub invariant-rows : goal.invariant-rows
invariant-rows g l = record {
  drawn : Drawn l.width (page_rows l.self) l.scroll l.i (page_left l.rest) l.out.items;
  ticks : g.L.Ledger.noted (rows_above (line_counts l.self) l.scroll + min l.i (length (page_rows l.self) - l.scroll)) l.fn.cuts l.cuts;
}
