use Rattle.std.proofs.Common.{length, drop, ◌-◌, ◌+◌, ◌≡◌, ◌≤◌, false}
use Rattle.md_rules.specs.Cells.{before_bar}
use Rattle.md_rules.proofs.cell.before_bar.Given as goal

abbrev pub invariant-loop-at : goal.invariant-loop-at
invariant-loop-at l =
    record {
      within : l.at ≤ length l.bytes;
      so_far : l.at + before_bar l.escaped (drop l.at l.bytes) ≡ before_bar false l.bytes;
    }

abbrev pub decreases-loop-at : goal.decreases-loop-at
decreases-loop-at l = length l.bytes - l.at
