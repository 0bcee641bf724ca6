use Rattle.md_events.proofs.TableSteps.{cell-turn}
use Rattle.md_events.proofs.tables.write_cells.Goals as goal

pub loop-cell-preserved : goal.loop-cell-preserved
loop-cell-preserved c =
    cell-turn c.loop-cell.cells _ c.in-Some.cell.now _ _ _ c.in-Some.ensures.cell c.in_ok-write_cell.ensures c.loop-cell.invariant
