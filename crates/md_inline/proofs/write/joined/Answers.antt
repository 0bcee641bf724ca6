use Rattle.std.proofs.Common.{arith}
use Rattle.md_inline.proofs.Joins.{joined-step}
use Rattle.md_inline.proofs.write.joined.Goals as goal

pub loop-at-preserved : goal.loop-at-preserved
loop-at-preserved c =
    (omega arith, joined-step _ _ _ _ _ c.loop-at-test.true c.index-lines-at.is c.in_ok-push_line.ensures c.loop-at.invariant.1)
