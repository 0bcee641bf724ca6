use Rattle.std.proofs.Common.{◌+◌, ◌-◌, ◌<◌, length}
use Rattle.programs.specs.Reading.{limit}
use Rattle.ansi_feed.proofs.Feeding.{FedOn}
use Rattle.ansi_feed.proofs.source.feed_all.Given as goal

abbrev pub invariant-reading : goal.invariant-reading
invariant-reading g l = record {
  fed : FedOn l.initial.feed.bound (g.R.Source.left l.initial.source) (g.R.Source.left l.source) (g.R.Source.faults l.initial.source) (g.R.Source.faults l.source) l.feed l.count;
  room : 0 < length l.part;
}

abbrev pub decreases-reading : goal.decreases-reading
decreases-reading g l = (limit + 1) - l.count
