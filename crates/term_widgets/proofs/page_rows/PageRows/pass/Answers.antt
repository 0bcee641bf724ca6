use Rattle.std.proofs.Common.{refl, sym, ◌∙◌, arith, length}
use Rattle.term_widgets.specs.PageRows.{page_left}
use Rattle.term_text.proofs.LineLemmas.{drop_step, drop_done}
use Rattle.term_widgets.proofs.CutsLemmas.{noted-none, noted-more, noted-all}
use Rattle.term_widgets.proofs.page_rows.PageRows.pass.Goals as goal

pub loop-i-init : goal.loop-i-init
loop-i-init g c =
    record { rest = refl; ticks = noted-none g.L.Ledger.noted _ (length (page_left c.args.self.now)) (g.met.L.Ledger.noted_none _) }

pub returns-in_default-clause-rest : goal.returns-in_default-clause-rest
returns-in_default-clause-rest g c =
    c.in_default.ensures.row.1
    ∙ sym (drop_done c.loop-i.i c.args.n (page_left c.args.self.now) (omega arith) (sym c.loop-i.invariant.rest ∙ c.in_default.ensures.row.0))

pub returns-in_default-clause-ticks : goal.returns-in_default-clause-ticks
returns-in_default-clause-ticks g c =
    noted-all g.L.Ledger.noted g.met.L.Ledger.noted_sum _ _ _ (page_left c.args.self.now) c.loop-i.i c.args.n (omega arith)
    (sym c.in_default.ensures.row.0 ∙ c.loop-i.invariant.rest) c.loop-i.invariant.ticks c.in_default.ensures.ticks

pub loop-i-preserved : goal.loop-i-preserved
loop-i-preserved g c = record {
  rest = sym (drop_step c.loop-i.i _ _ _ (sym c.loop-i.invariant.rest ∙ c.in-Some.ensures.row));
  ticks = noted-more g.L.Ledger.noted g.met.L.Ledger.noted_sum _ _ _ (page_left c.args.self.now) _ _ c.loop-i.i
      (sym c.in-Some.ensures.row ∙ c.loop-i.invariant.rest) c.loop-i.invariant.ticks c.in-Some.ensures.ticks;
}
