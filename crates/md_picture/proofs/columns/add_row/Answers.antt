use Rattle.std.proofs.Common.{arith, sym}
use Rattle.md_picture.proofs.Widening.{widened-turn, widened-ends}
use Rattle.md_picture.proofs.columns.add_row.Goals as goal

pub loop-at-preserved : goal.loop-at-preserved
loop-at-preserved c =
    widened-turn c.loop-at.at _ c.loop-at.bounds.items c.add_cell.new.bounds.items c.index-cells-at.result c.args.cells.now
    c.in_ok-add_cell.ensures (omega (arith, c.loop-at-test.true)) (sym c.index-cells-at.is) c.loop-at.invariant.0 c.loop-at.invariant.1

pub returns : goal.returns
returns c = widened-ends c.loop-at.at _ c.loop-at.bounds.items c.args.cells.now (omega (arith, c.loop-at-test.false)) c.loop-at.invariant.1
