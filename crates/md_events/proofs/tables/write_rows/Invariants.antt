use Rattle.std.proofs.Common.{length, drop, ◌-◌, ◌≡◌, ◌++◌}
use Rattle.md_tree.specs.Tree.{events}
use Rattle.md_events.specs.Tables.{row_nodes}
use Rattle.md_events.proofs.tables.write_rows.Given as goal

abbrev pub invariant-loop-at : goal.invariant-loop-at
invariant-loop-at l = l.out.items ++ events (row_nodes (drop l.at l.lines)) ≡ l.fn.out.items ++ events (row_nodes l.lines)

abbrev pub decreases-loop-at : goal.decreases-loop-at
decreases-loop-at l = length l.lines - l.at
