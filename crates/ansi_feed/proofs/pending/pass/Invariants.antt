use Rattle.std.proofs.Common.{◌≡◌, ◌-◌, length}
use Rattle.ansi_feed.specs.Pending.{PassesBytes}
use Rattle.ansi_feed.proofs.pending.pass.Given as goal

abbrev pub invariant-bytes : goal.invariant-bytes
invariant-bytes l = PassesBytes l.fn.pending l.bytes l.place

abbrev pub decreases-bytes : goal.decreases-bytes
decreases-bytes l = length l.bytes - l.place.count
