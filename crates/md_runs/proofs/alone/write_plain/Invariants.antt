use Rattle.std.proofs.Common.{length, drop, List, ◌-◌, ◌≡◌, ◌≤◌, ◌++◌}
use Rattle.md_runs.specs.Marks.{Step, joined}
use Rattle.md_runs.specs.Plain.{plain_steps}
use Rattle.md_runs.specs.Facts.{IsPen}
use Rattle.md_runs.proofs.alone.write_plain.Given as goal

abbrev pub invariant-loop-at : goal.invariant-loop-at
invariant-loop-at l = record {
  within : l.at ≤ length l.leaves;
  pen : IsPen l.source l.pen;
  written : (ss : List Step) → l.out.items ++ joined l.source.text l.pen.pending (plain_steps l.source.text l.in_link (drop l.at l.leaves) ++ ss) ≡ l.fn.out.items ++ joined l.source.text l.fn.pen.pending (plain_steps l.source.text l.in_link l.leaves ++ ss);
}

abbrev pub decreases-loop-at : goal.decreases-loop-at
decreases-loop-at l = length l.leaves - l.at
