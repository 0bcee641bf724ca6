use Rattle.std.proofs.Common.{◌≡◌, ◌≤◌, ◌+◌, ◌*◌, drop, length, sum_by}
use Rattle.md_picture.specs.declared.columns.Column.{Column}
use Rattle.md_picture.specs.Widths.{picture_width}
use Rattle.md_picture.proofs.columns.picture_width.Given as goal

abbrev pub invariant-loop-column : goal.invariant-loop-column
invariant-loop-column l = (1 ≤ l.width) × (l.width + (sum_by (λ (c : Column). c.width) (drop l.column-index l.columns) + 3 * length (drop l.column-index l.columns)) ≡ picture_width l.columns)
