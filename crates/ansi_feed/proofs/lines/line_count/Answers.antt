use Rattle.std.proofs.Common.{◌≡◌, length, arith}
use Rattle.std.proofs.lemmas.Bool.Decides.{nat_tests}
use Rattle.ansi_feed.proofs.ReadLemmas.{no_lines}
use Rattle.ansi_feed.proofs.lines.line_count.Goals as goal

pub returns : goal.returns
returns c =
    let none : length c.loop-rest.rest.now ≡ 0 = grind (arith, nat_tests, c.is_empty.ensures, c.loop-rest-test.false) in
    omega (arith, c.loop-rest.invariant.lines, no_lines c.loop-rest.rest.now none)
