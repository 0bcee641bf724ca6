use Rattle.md_events.proofs.MetadataSteps.{further-end, further-turn}
use Rattle.md_events.proofs.metadata.write_further_texts.Goals as goal

pub loop-at-preserved : goal.loop-at-preserved
loop-at-preserved c =
    further-turn c.args.lines.now c.loop-at.at c.index-lines-at.result _ _ _ _ c.loop-at-test.true c.index-lines-at.is c.in_ok-push.ensures.items c.in_ok-write_kept.ensures c.loop-at.invariant

pub returns : goal.returns
returns c = further-end c.args.lines.now c.loop-at.at _ _ c.loop-at-test.false c.loop-at.invariant
