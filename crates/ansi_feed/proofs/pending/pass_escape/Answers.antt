use Rattle.std.proofs.Common.{◌≡◌, ◌==◌, false, get_or, arith}
use Rattle.std.proofs.lemmas.Bool.Decides.{nat_tests}
use Rattle.ansi_feed.proofs.PendingLemmas.{passes-escape}
use Rattle.ansi_feed.proofs.pending.pass_escape.Goals as goal

pub returns-in_default-clause-passes : goal.returns-in_default-clause-passes
returns-in_default-clause-passes c =
    let bracket : (get_or c.args.bytes.now 0 0 == 91) ≡ false = grind (arith, nat_tests, c.in_default) in
    let title : (get_or c.args.bytes.now 0 0 == 93) ≡ false = grind (arith, nat_tests, c.in_default) in
    passes-escape c.args.bytes.now c.pass_stretch.result c.requires bracket title c.pass_stretch.ensures.passes
