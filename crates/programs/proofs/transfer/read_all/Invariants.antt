use Rattle.std.proofs.Common.{◌+◌, ◌-◌, ◌≤◌, ◌<◌, length}
use Rattle.programs.specs.Reading.{limit}
use Rattle.programs.proofs.Transfers.{ReadsOn}
use Rattle.programs.proofs.transfer.read_all.Given as goal

abbrev pub invariant-reading : goal.invariant-reading
invariant-reading g l = record {
  read : ReadsOn (g.R.Source.left l.initial.source) (g.R.Source.left l.source) (g.R.Source.faults l.initial.source) (g.R.Source.faults l.source) l.bytes.items;
  short : length l.bytes.items ≤ limit + 1;
  room : 0 < length l.part.items;
}

abbrev pub decreases-reading : goal.decreases-reading
decreases-reading g l = (limit + 1) - length l.bytes.items
