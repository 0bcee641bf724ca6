use Rattle.std.proofs.Common.{◌≡◌, drop}
use Rattle.md_picture.specs.Picture.{with_cells}
use Rattle.md_picture.proofs.row.with_cells.Given as goal

abbrev pub invariant-loop-column : goal.invariant-loop-column
invariant-loop-column l = with_cells l.border l.style (drop l.column-index l.columns) l.rest.rest.items l.longer.items ≡ with_cells l.border l.style l.columns l.fn.parts.items l.fn.lines.items
