use Rattle.md_events.proofs.TableSteps.{row-turn, rows-end}
use Rattle.md_events.proofs.tables.write_rows.Goals as goal

pub loop-at-preserved : goal.loop-at-preserved
loop-at-preserved c =
    row-turn c.args.lines.now c.loop-at.at c.index-lines-at.result _ _ _ c.loop-at-test.true c.index-lines-at.is c.in_ok-write_row.ensures c.loop-at.invariant

pub returns : goal.returns
returns c = rows-end c.args.lines.now c.loop-at.at _ _ c.loop-at-test.false c.loop-at.invariant
