use Rattle.std.proofs.Common.{arith, sym}
use Rattle.ansi_text.proofs.LineLemmas.{first_escape-found, first_escape-none}
use Rattle.ansi_feed.proofs.pending.first_escape.Goals as goal

pub returns-in-Some-clause-value : goal.returns-in-Some-clause-value
returns-in-Some-clause-value c =
    let found = c.in-Some.ensures in
    sym (first_escape-found c.args.bytes.now c.in-Some.place found.0.high (λ j below is. found.0.before j (omega arith) below is) found.1)

pub returns-in-None-clause-value : goal.returns-in-None-clause-value
returns-in-None-clause-value c = sym (first_escape-none c.args.bytes.now (λ j below is. c.in-None.ensures j (omega arith) below is))
