use Rattle.std.proofs.Common.{length, drop, ◌≡◌, ◌≤◌, ◌+◌, ◌-◌}
use Rattle.md_leaves.specs.Leaves.{text_length}
use Rattle.md_leaves.proofs.cut.text_length.Given as goal

abbrev pub invariant-loop-at : goal.invariant-loop-at
invariant-loop-at l = record {
  order : l.start ≤ l.at;
  within : l.at ≤ length l.source;
  length : (l.at - l.start) + text_length l.source l.at (drop l.at l.source) ≡ text_length l.source l.start (drop l.start l.source);
}

abbrev pub decreases-loop-at : goal.decreases-loop-at
decreases-loop-at l = length l.source - l.at
