use Rattle.std.proofs.Common.{◌≡◌, drop}
use Rattle.md_columns.specs.Fair.{left_over, total}
use Rattle.md_columns.proofs.share.left_over.Given as goal

abbrev pub invariant-loop-column : goal.invariant-loop-column
invariant-loop-column l = left_over (total l.choice (drop l.column-index l.columns)) l.left ≡ left_over (total l.choice l.columns) l.fn.budget
