use Rattle.md_events.proofs.KeptSteps.{kept-step, kept-end}
use Rattle.md_events.proofs.kept.write_kept_lines.Goals as goal

pub loop-at-preserved : goal.loop-at-preserved
loop-at-preserved c =
    kept-step c.args.kept c.args.column c.args.lines.now c.loop-at.at c.index-lines-at.result _ _ _ c.loop-at-test.true c.index-lines-at.is c.in_ok-write_kept_line.ensures c.loop-at.invariant

pub returns : goal.returns
returns c = kept-end c.args.kept c.args.column c.args.lines.now c.loop-at.at _ _ c.loop-at-test.false c.loop-at.invariant
