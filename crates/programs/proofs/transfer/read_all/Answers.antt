use Rattle.std.proofs.Common.{arith, ◌≤◌, length}
use Rattle.std.proofs.lemmas.Grind.{common_steps}
use Rattle.programs.proofs.Transfers.{reads_nothing, reads_more, reads_end, reads_stop}
use Rattle.programs.proofs.transfer.read_all.Goals as goal

pub reading-init : goal.reading-init
reading-init g c = record {
  read = rw c.new-bytes.ensures.items (reads_nothing _ _);
  short = rw c.new-bytes.ensures.items (omega arith);
  room = grind (arith, common_steps);
}

pub reading-preserved : goal.reading-preserved
reading-preserved g c = record {
  read = reads_more _ _ _ _ _ _ _ _ _ c.reading.invariant.read c.in-Ok-true.ensures.step;
  short = c.in-Ok-true.ensures.step.short;
  room = grind (arith, common_steps);
}

pub returns-in-Ok-false-clause-ok : goal.returns-in-Ok-false-clause-ok
returns-in-Ok-false-clause-ok g c =
    let short : length c.reading.bytes.items ≤ 16777216 = omega arith in
    reads_end _ _ _ _ _ _ _ _ c.reading.invariant.read (rw c.in-Ok-false.field-0-test at c.in-Ok-false.ensures.step) short

pub returns-in-Err-clause-stopped : goal.returns-in-Err-clause-stopped
returns-in-Err-clause-stopped g c =
    reads_stop _ _ _ _ _ _ _ _ c.reading.invariant.read c.in-Err.ensures.stopped
