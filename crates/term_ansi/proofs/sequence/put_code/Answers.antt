use Rattle.std.proofs.Common.{arith}
use Rattle.term_ansi.proofs.PutLemmas.{one_digit, two_digits, three_digits}
use Rattle.term_ansi.proofs.sequence.put_code.Goals as goal

pub returns-then-code-lt10-clause-text : goal.returns-then-code-lt10-clause-text
returns-then-code-lt10-clause-text c = one_digit _ _ _ c.args.code (omega (arith, c.if-code-lt10.true)) c.put-at.ensures.text c.put.ensures.text

pub returns-then-code-lt100-clause-text : goal.returns-then-code-lt100-clause-text
returns-then-code-lt100-clause-text c =
    two_digits _ _ _ _ c.args.code (omega (arith, c.if-code-lt10.false)) (omega (arith, c.if-code-lt100.true)) c.put-at.ensures.text
    c.put-at-then-code-lt100.ensures.text c.put-then-code-lt100.ensures.text

pub returns-clause-text : goal.returns-clause-text
returns-clause-text c =
    three_digits _ _ _ _ _ c.args.code (omega (arith, c.if-code-lt100.false)) (omega (arith, c.ranges.code.fits)) c.put-at.ensures.text
    c.put-at-2.ensures.text c.put-at-3.ensures.text c.put-2.ensures.text
