use Rattle.std.proofs.Common.{arith, sym}
use Rattle.term_text.proofs.EndLemmas.{first_end-found, first_end-none}
use Rattle.term_text.proofs.line_ends.first_end.Goals as goal

pub returns-in-Some-clause-value : goal.returns-in-Some-clause-value
returns-in-Some-clause-value c =
    let found = c.in-Some.ensures in
    sym (first_end-found c.args.bytes.now c.in-Some.place found.0.high (λ j below is. found.0.before j (omega arith) below is) found.1)

pub returns-in-None-clause-value : goal.returns-in-None-clause-value
returns-in-None-clause-value c = sym (first_end-none c.args.bytes.now (λ j below is. c.in-None.ensures j (omega arith) below is))
