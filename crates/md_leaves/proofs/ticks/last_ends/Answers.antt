use Rattle.std.proofs.Common.{◌∙◌, ap}
use Rattle.std.specs.List.{prefix_len}
use Rattle.md_leaves.specs.Code.{is_tick}
use Rattle.md_leaves.proofs.TickLemmas.{Ends-run, Ends-other, Ends-all}
use Rattle.md_leaves.proofs.ticks.last_ends.Goals as goal

pub loop-at-preserved-in-Continue-1 : goal.loop-at-preserved-in-Continue-1
loop-at-preserved-in-Continue-1 c =
    Ends-run c.args.source.now c.loop-at.at c.stretch-n.result c.loop-at.ends.items c.put.new.numbers.items c.loop-at-test.true c.if-source-at-eq96.true
    (c.stretch-n.ensures.value ∙ ap (prefix_len is_tick) c.rest_of.ensures) c.in_ok-put.ensures c.loop-at.invariant

pub loop-at-preserved : goal.loop-at-preserved
loop-at-preserved c = Ends-other c.args.source.now c.loop-at.at c.loop-at.ends.items c.loop-at-test.true c.if-source-at-eq96.false c.loop-at.invariant

pub returns : goal.returns
returns c = Ends-all c.args.source.now c.loop-at.at c.loop-at.ends.items c.loop-at-test.false c.loop-at.invariant
