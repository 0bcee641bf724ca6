use Rattle.std.proofs.Common.{◌≡◌, length}
use Rattle.term_text.specs.Style.{no_style}
use Rattle.ansi_text.specs.Ansi.{is_text}
use Rattle.ansi_feed.specs.Feed.{lines_from}
use Rattle.ansi_feed.proofs.pending.are_text.Given as goal

abbrev pub invariant-loop-rest : goal.invariant-loop-rest
invariant-loop-rest l = is_text (lines_from no_style l.rest) ≡ is_text (lines_from no_style l.bytes)

abbrev pub decreases-loop-rest : goal.decreases-loop-rest
decreases-loop-rest l = length l.rest
