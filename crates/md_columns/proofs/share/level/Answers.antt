use Rattle.std.proofs.Common.{arith}
use Rattle.md_columns.proofs.Levels.{level-begins, level-ends}
use Rattle.md_columns.proofs.share.level.Goals as goal

pub loop-high-init : goal.loop-high-init
loop-high-init c = level-begins c.args.budget c.widest-high.result c.args.columns.now c.widest-high.ensures c.requires.fits c.requires.more

pub returns : goal.returns
returns c = level-ends c.loop-high.low c.loop-high.high c.args.budget c.args.columns.now c.loop-high.invariant (omega (arith, c.loop-high-test.false))
