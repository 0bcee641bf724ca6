use Rattle.std.proofs.Common.{length, drop, ◌-◌, ◌≡◌, ◌++◌}
use Rattle.md_tree.specs.Tree.{events}
use Rattle.md_events.specs.Kept.{kept_lines}
use Rattle.md_events.proofs.kept.write_kept_lines.Given as goal

abbrev pub invariant-loop-at : goal.invariant-loop-at
invariant-loop-at l =
    l.out.items ++ events (kept_lines l.kept l.column (drop l.at l.lines)) ≡ l.fn.out.items ++ events (kept_lines l.kept l.column l.lines)

abbrev pub decreases-loop-at : goal.decreases-loop-at
decreases-loop-at l = length l.lines - l.at
