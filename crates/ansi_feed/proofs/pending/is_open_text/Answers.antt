use Rattle.std.proofs.Common.{sym}
use Rattle.ansi_feed.proofs.PendingLemmas.{end-lost, end-counted}
use Rattle.ansi_feed.proofs.pending.is_open_text.Goals as goal

pub returns-in-Lost : goal.returns-in-Lost
returns-in-Lost c = sym (end-lost c.args.pending c.args.bytes.now c.pass-place.result c.pass-place.ensures.passes c.in-Lost.is)

pub returns-in_default : goal.returns-in_default
returns-in_default c =
    end-counted c.args.pending c.args.bytes.now c.pass-place.result c.pass-place.ensures.passes c.in_default.not-Lost c.pass-place.ensures.left
