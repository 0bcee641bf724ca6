use Rattle.std.proofs.Common.{◌≡◌, arith, refl, ◌<◌, length}
use Rattle.programs.proofs.Transfers.{writes_on, writes_end, stops_writing}
use Rattle.std.proofs.lemmas.Bool.Decides.{nat_tests}
use Rattle.programs.proofs.transfer.write_all.Goals as goal

pub returns-in_default-clause-failed : goal.returns-in_default-clause-failed
returns-in_default-clause-failed g c =
    let some : 0 < length c.writing.rest.now = grind (arith, nat_tests, c.writing-test.ensures) in
    (refl, stops_writing _ _ _ _ _ _ _ _ c.writing.invariant some c.in_default.ensures.bytes c.in_default.ensures.cause.failed)

pub writing-preserved : goal.writing-preserved
writing-preserved g c =
    writes_on _ _ _ _ _ _ _ _ _ c.writing.invariant c.in-Ok.ensures.bytes c.in-Ok.ensures.cause.passed

pub returns-clause-ok : goal.returns-clause-ok
returns-clause-ok g c =
    let none : length c.writing.rest.now ≡ 0 = grind (arith, nat_tests, c.writing-test.ensures) in
    writes_end _ _ _ _ _ _ c.writing.invariant none
