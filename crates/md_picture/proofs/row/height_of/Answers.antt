use Rattle.std.proofs.Common.{drop, arith}
use Rattle.std.proofs.Math.ListN.{drop_of_length-le}
use Rattle.md_picture.proofs.Heights.{height-begins, height-ends}
use Rattle.md_picture.proofs.row.height_of.Goals as goal

pub loop-rows-init : goal.loop-rows-init
loop-rows-init c = (omega arith, height-begins c.args.parts.now)

pub returns : goal.returns
returns c = height-ends c.loop-rows.height (drop c.loop-rows.rows-index c.args.parts.now) c.args.parts.now (drop_of_length-le c.args.parts.now (omega (arith, c.loop-rows-test.false))) c.loop-rows.invariant.0 c.loop-rows.invariant.1
