use Rattle.std.proofs.Common.{◌≡◌, ◌≤◌, ◌++◌, drop, take, length}
use Rattle.md_picture.specs.Cells.{with_row}
use Rattle.md_picture.proofs.columns.add_row.Given as goal

abbrev pub invariant-loop-at : goal.invariant-loop-at
invariant-loop-at l = (l.at ≤ length l.bounds.items) × (take l.at l.bounds.items ++ with_row (drop l.at l.bounds.items) (drop l.at l.cells) ≡ with_row l.fn.bounds.items l.cells)
