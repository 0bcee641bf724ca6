use Rattle.ansi_feed.proofs.Feeding.{fed_no_part}
use Rattle.ansi_feed.proofs.source.feed_source.Goals as goal

pub returns-in_default-clause-stopped : goal.returns-in_default-clause-stopped
returns-in_default-clause-stopped g c = fed_no_part _ _
