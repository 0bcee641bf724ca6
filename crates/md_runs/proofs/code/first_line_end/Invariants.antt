use Rattle.std.proofs.Common.{length, drop, ◌≡◌, ◌≤◌, ◌-◌, ◌+◌}
use Rattle.md_runs.specs.Code.{first_line_end}
use Rattle.md_runs.proofs.code.first_line_end.Given as goal

abbrev pub invariant-loop-at : goal.invariant-loop-at
invariant-loop-at l = (l.bytes ≡ l.text) × (l.at ≤ length l.text) × (l.at + first_line_end (drop l.at l.text) ≡ first_line_end l.text)

abbrev pub decreases-loop-at : goal.decreases-loop-at
decreases-loop-at l = length l.bytes - l.at
