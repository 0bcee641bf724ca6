use Rattle.std.proofs.Common.{◌≡◌, ◌++◌, drop}
use Rattle.md_picture.specs.Picture.{body_lines}
use Rattle.md_picture.specs.Fits.{RowsFit}
use Rattle.md_picture.proofs.table.push_body.Given as goal

abbrev pub invariant-loop-at : goal.invariant-loop-at
invariant-loop-at l = RowsFit l.columns (drop l.at l.rows) × (l.lines.items ++ body_lines l.styles l.dividers l.columns (drop l.at l.rows) ≡ l.fn.lines.items ++ body_lines l.styles l.dividers l.columns l.rows)
