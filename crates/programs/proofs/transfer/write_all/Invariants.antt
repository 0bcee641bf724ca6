use Rattle.std.proofs.Common.{length}
use Rattle.programs.proofs.Transfers.{WritesOn}
use Rattle.programs.proofs.transfer.write_all.Given as goal

abbrev pub invariant-writing : goal.invariant-writing
invariant-writing g l =
    WritesOn (g.W.Sink.written l.initial.sink) (g.W.Sink.written l.sink) (g.W.Sink.faults l.initial.sink) (g.W.Sink.faults l.sink) l.bytes l.rest

abbrev pub decreases-writing : goal.decreases-writing
decreases-writing g l = length l.rest
