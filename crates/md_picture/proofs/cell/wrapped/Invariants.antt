use Rattle.std.proofs.Common.{◌≡◌, ◌++◌, length, map}
use Rattle.md_picture.specs.Cells.{glyph}
use Rattle.term_text.specs.Graph.{graphs}
use Rattle.term_text.specs.Rows.{rows_left}
use Rattle.term_text.specs.Wrap.{wrap}
use Rattle.md_picture.proofs.cell.wrapped.Given as goal

abbrev pub invariant-rows : goal.invariant-rows
invariant-rows l = l.parts.items ++ map (λ row. map glyph row) (rows_left l.cutter) ≡ map (λ row. map glyph row) (wrap l.width (graphs l.cell))

abbrev pub decreases-rows : goal.decreases-rows
decreases-rows l = length (rows_left l.cutter)
