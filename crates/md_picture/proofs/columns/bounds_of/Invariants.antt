use Rattle.std.proofs.Common.{◌≡◌, drop, replicate, fold}
use Rattle.md_picture.specs.Cells.{narrowest, with_row}
use Rattle.md_picture.proofs.columns.bounds_of.Given as goal

abbrev pub invariant-loop : goal.invariant-loop
invariant-loop l = l.bounds.items ≡ replicate l.counter narrowest

abbrev pub invariant-loop-row : goal.invariant-loop-row
invariant-loop-row l = fold (λ bounds row. with_row bounds row) l.bounds.items (drop l.row-index l.rows) ≡ fold (λ bounds row. with_row bounds row) l.initial.bounds.items l.rows
