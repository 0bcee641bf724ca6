use Rattle.std.proofs.Common.{length, ◌≡◌, ◌++◌}
use Rattle.md_tree.specs.Tree.{events}
use Rattle.md_rules.specs.Tables.{cells}
use Rattle.md_events.specs.Tables.{cell_nodes}
use Rattle.md_events.proofs.tables.write_cells.Given as goal

abbrev pub invariant-loop-cell : goal.invariant-loop-cell
invariant-loop-cell l = l.out.items ++ events (cell_nodes l.cells) ≡ l.fn.out.items ++ events (cell_nodes (cells l.line))

abbrev pub decreases-loop-cell : goal.decreases-loop-cell
decreases-loop-cell l = length l.cells
