use Rattle.std.proofs.Common.{ap, arith}
use Rattle.std.proofs.lemmas.List.{drop_all}
use Rattle.term_text.specs.Graph.{columns, spans_graphs, widest}
use Rattle.term_text.proofs.WidthLemmas.{columns-spans, widest-spans}
use Rattle.term_text.proofs.text.Line.extent.Goals as goal

pub loop-span-preserved : goal.loop-span-preserved
loop-span-preserved c =
    let style = c.args.self.now.style in
    let spans = c.spans-span-items.result.now in
    let sum = columns-spans style spans c.loop-span.span-index c.span-item.result c.loop-span-test.true c.span-item.is in
    let most = widest-spans style spans c.loop-span.span-index c.span-item.result c.loop-span-test.true c.span-item.is in
    let before = c.loop-span.invariant in
    let more = c.extent-more.ensures in (
      omega (arith, sum, before.0, before.1, more.columns, c.saturating_add.ensures),
      omega (arith, c.saturating_add.ensures),
      omega (arith, most, before.2, more.widest, c.max.ensures),
    )

pub returns-clause-columns : goal.returns-clause-columns
unfolding spans_graphs
returns-clause-columns c =
    let none = ap (λ spans. columns (spans_graphs c.args.self.now.style spans)) (drop_all c.loop-span.span-index c.spans-span-items.result.now c.loop-span-test.false) in
    omega (arith, none, c.loop-span.invariant.0, c.loop-span.invariant.1)

pub returns-clause-widest : goal.returns-clause-widest
unfolding spans_graphs widest
returns-clause-widest c =
    let none = ap (λ spans. widest (spans_graphs c.args.self.now.style spans)) (drop_all c.loop-span.span-index c.spans-span-items.result.now c.loop-span-test.false) in
    omega (arith, none, c.loop-span.invariant.2)
