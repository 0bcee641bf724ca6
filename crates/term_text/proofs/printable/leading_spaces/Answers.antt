use Rattle.std.proofs.Common.{arith, ◌∙◌, ap}
use Rattle.std.proofs.lemmas.List.{drop_all}
use Rattle.term_text.specs.Cut.{leading_spaces}
use Rattle.term_text.proofs.PrintableLemmas.{leading_spaces-more, leading_spaces-stop}
use Rattle.term_text.proofs.printable.leading_spaces.Goals as goal

pub loop-at-preserved : goal.loop-at-preserved
loop-at-preserved c = (leading_spaces-more c.args.bytes.now c.loop-at.at c.loop-at-test.true c.if-bytes-at-eq32.true ∙ c.loop-at.invariant.0, omega arith)

pub returns-else-bytes-at-eq32-clause-value : goal.returns-else-bytes-at-eq32-clause-value
returns-else-bytes-at-eq32-clause-value c =
    omega (arith, leading_spaces-stop c.args.bytes.now c.loop-at.at c.loop-at-test.true c.if-bytes-at-eq32.false, c.loop-at.invariant.0)

pub returns-after-loop-at-clause-value : goal.returns-after-loop-at-clause-value
unfolding leading_spaces
returns-after-loop-at-clause-value c =
    let none = ap leading_spaces (drop_all c.loop-at.at c.args.bytes.now c.loop-at-test.false) in
    omega (arith, none, c.loop-at.invariant.0)
