use Rattle.std.proofs.Common.{refl}
use Rattle.ansi_feed.proofs.PendingLemmas.{passes-bracket_as, passes-title_as}
use Rattle.ansi_feed.proofs.pending.pass_some.Goals as goal

pub returns-in-Bracket-clause-passes : goal.returns-in-Bracket-clause-passes
returns-in-Bracket-clause-passes c =
    passes-bracket_as c.args.pending c.args.bytes.now _ c.dropped.result c.requires c.in-Bracket.is c.is_ascii_alphabetic.ensures.value c.dropped.ensures

pub returns-in-Title-clause-passes : goal.returns-in-Title-clause-passes
returns-in-Title-clause-passes c =
    passes-title_as c.args.pending c.args.bytes.now _ c.dropped-in-Title.result c.requires c.in-Title.is refl c.dropped-in-Title.ensures
