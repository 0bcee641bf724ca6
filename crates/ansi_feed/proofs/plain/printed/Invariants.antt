use Rattle.std.proofs.Common.{◌≡◌, ◌-◌, length, take}
use Rattle.ansi_feed.specs.Plain.{printed}
use Rattle.ansi_feed.proofs.plain.printed.Given as goal

abbrev pub invariant-lines : goal.invariant-lines
invariant-lines l = l.out.items ≡ printed (take l.index l.feed.lines)

abbrev pub decreases-lines : goal.decreases-lines
decreases-lines l = length l.feed.lines - l.index
