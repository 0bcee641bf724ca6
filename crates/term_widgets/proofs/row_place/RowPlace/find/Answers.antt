use Rattle.std.proofs.Common.{◌≡◌, ◌+◌, ◌-◌, ◌/◌, ◌<◌, suc, length, take, sym, subst, ◌∙◌, arith}
use Rattle.std.specs.List.{sum}
use Rattle.term_widgets.proofs.HalvingLemmas.{halved-more}
use Rattle.term_widgets.proofs.RowPlaceLemmas.{line_of-at, line_of-past, rows_above-at, rows_above-past}
use Rattle.term_widgets.proofs.row_place.RowPlace.find.Goals as goal

pub returns-then-row-total-clause-line : goal.returns-then-row-total-clause-line
returns-then-row-total-clause-line g c =
    c.lines-end.ensures ∙ sym (line_of-past c.args.index.now c.args.row (omega (arith, c.total.ensures, c.if-row-total.true)))

pub returns-then-row-total-clause-above : goal.returns-then-row-total-clause-above
returns-then-row-total-clause-above g c =
    sym (rows_above-past c.args.index.now c.args.row (omega (arith, c.total.ensures, c.if-row-total.true)))

pub halves-preserved-then-rows-row : goal.halves-preserved-then-rows-row
halves-preserved-then-rows-row g c =
    let inv = c.halves.invariant in
    let two = c.halves-test.true in
    record {
      ordered = omega (arith, inv.ordered, two);
      within = inv.within;
      start = c.before-rows.ensures.rows;
      from = c.if-rows-row.true;
      to = inv.to;
      halved = halved-more g.L.Ledger.noted g.met.L.Ledger.noted_sum (length c.args.index.now) (c.halves.end - c.halves.line)
          (c.halves.end - (c.halves.line + (c.halves.end - c.halves.line) / 2)) _ _ _ (omega (arith, two)) (omega (arith, two))
          inv.halved c.before-rows.ensures.ticks;
    }

pub halves-preserved : goal.halves-preserved
halves-preserved g c =
    let inv = c.halves.invariant in
    let two = c.halves-test.true in
    record {
      ordered = omega (arith, inv.ordered, two);
      within = omega (arith, inv.within, inv.ordered);
      start = inv.start;
      from = inv.from;
      to = omega (arith, c.before-rows.ensures.rows, c.if-rows-row.false);
      halved = halved-more g.L.Ledger.noted g.met.L.Ledger.noted_sum (length c.args.index.now) (c.halves.end - c.halves.line)
          ((c.halves.line + (c.halves.end - c.halves.line) / 2) - c.halves.line) _ _ _ (omega (arith, two)) (omega (arith, two))
          inv.halved c.before-rows.ensures.ticks;
    }

pub returns-clause-line : goal.returns-clause-line
returns-clause-line g c =
    let inv = c.halves.invariant in
    let next : c.halves.end ≡ suc c.halves.line = omega (arith, inv.ordered, c.halves-test.false) in
    sym (line_of-at c.args.index.now c.halves.line c.args.row (omega (arith, inv.start, inv.from))
    (subst (λ n. c.args.row < sum (take n c.args.index.now)) next inv.to))

pub returns-clause-above : goal.returns-clause-above
returns-clause-above g c =
    let inv = c.halves.invariant in
    let next : c.halves.end ≡ suc c.halves.line = omega (arith, inv.ordered, c.halves-test.false) in
    let above = rows_above-at c.args.index.now c.halves.line c.args.row (omega (arith, inv.start, inv.from))
    (subst (λ n. c.args.row < sum (take n c.args.index.now)) next inv.to) in
    omega (arith, above, inv.start)
