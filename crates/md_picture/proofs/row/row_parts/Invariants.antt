use Rattle.std.proofs.Common.{◌≡◌, ◌++◌, drop}
use Rattle.md_picture.specs.Picture.{row_parts}
use Rattle.md_picture.specs.Fits.{RowFits}
use Rattle.md_picture.proofs.row.row_parts.Given as goal

abbrev pub invariant-loop-at : goal.invariant-loop-at
invariant-loop-at l = RowFits (drop l.at l.columns) (drop l.at l.cells) × (l.parts.items ++ row_parts (drop l.at l.columns) (drop l.at l.cells) ≡ row_parts l.columns l.cells)
