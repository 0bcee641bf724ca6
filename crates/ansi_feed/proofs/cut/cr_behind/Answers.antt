use Rattle.std.proofs.Common.{◌<◌, length, arith}
use Rattle.std.proofs.lemmas.Bool.Decides.{nat_tests}
use Rattle.ansi_feed.proofs.FeedLemmas.{cr_behind-last}
use Rattle.ansi_feed.proofs.cut.cr_behind.Goals as goal

pub returns-else-is_empty : goal.returns-else-is_empty
returns-else-is_empty c =
    let some : 0 < length c.args.piece.now = grind (arith, nat_tests, c.is_empty.ensures, c.if-is_empty.false) in
    cr_behind-last c.args.after_cr c.args.piece.now some
