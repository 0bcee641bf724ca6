use Rattle.std.proofs.Common.{◌≡◌, ◌∙◌, ◌==◌, true, false, arith}
use Rattle.std.proofs.lemmas.Bool.Decides.{nat_tests}
use Rattle.ansi_text.specs.Pieces.{is_bell}
use Rattle.ansi_text.proofs.PieceLemmas.{beyond-yes, beyond-no, beyond-none}
use Rattle.ansi_text.proofs.sequence.beyond_bell.Goals as goal

pub returns-then-first-eq7 : goal.returns-then-first-eq7
returns-then-first-eq7 c =
    let test : (c.in-Some.first.now == 7) ≡ true = grind (arith, nat_tests, c.if-first-eq7.true) in
    beyond-yes is_bell c.loop-first.rest.now _ _ c.in-Some.ensures.cases.0 test ∙ c.loop-first.invariant

pub loop-first-preserved : goal.loop-first-preserved
loop-first-preserved c =
    let test : (c.in-Some.first.now == 7) ≡ false = grind (arith, nat_tests, c.if-first-eq7.false) in
    beyond-no is_bell c.loop-first.rest.now _ _ c.in-Some.ensures.cases.0 test ∙ c.loop-first.invariant

pub returns : goal.returns
returns c = beyond-none is_bell c.loop-first.rest.now c.in_default.ensures.cases ∙ c.loop-first.invariant
