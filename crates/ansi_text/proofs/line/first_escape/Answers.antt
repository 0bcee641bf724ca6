use Rattle.std.proofs.Common.{◌<◌, ◌==◌, ap, length, arith, sym}
use Rattle.std.proofs.lemmas.Bool.Decides.{nat_tests}
use Rattle.ansi_text.proofs.LineLemmas.{first_escape-found, first_escape-none}
use Rattle.ansi_text.proofs.line.first_escape.Goals as goal

pub returns-then-bytes-eq27-clause-value : goal.returns-then-bytes-eq27-clause-value
returns-then-bytes-eq27-clause-value c =
    let some : 0 < length c.args.bytes.now = grind (arith, nat_tests, c.is_empty.ensures, c.if-not-is_empty.true) in
    sym (first_escape-found c.args.bytes.now 0 some (λ j below is. absurd (omega (arith, below))) (ap (λ b. b == 27) c.if-bytes-eq27.true))

pub returns-in-Some-clause-value : goal.returns-in-Some-clause-value
returns-in-Some-clause-value c =
    let found = c.in-Some.ensures in
    sym (first_escape-found c.args.bytes.now c.in-Some.place found.0.high (λ j below is. found.0.before j (omega arith) below is) found.1)

pub returns-in-None-clause-value : goal.returns-in-None-clause-value
returns-in-None-clause-value c = sym (first_escape-none c.args.bytes.now (λ j below is. c.in-None.ensures j (omega arith) below is))
