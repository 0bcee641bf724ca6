use Rattle.std.proofs.Common.{◌≡◌, ◌++◌, length, map}
use Rattle.md_picture.specs.Cells.{glyph}
use Rattle.term_text.specs.Rows.{row_left, row_graphs}
use Rattle.md_picture.proofs.cell.glyphs.Given as goal

abbrev pub invariant-graphs : goal.invariant-graphs
invariant-graphs l = l.spans.items ++ map (λ g. glyph g) (row_left l.rest) ≡ map (λ g. glyph g) (row_graphs l.row)

abbrev pub decreases-graphs : goal.decreases-graphs
decreases-graphs l = length (row_left l.rest)
