-- Cells that fit their columns.
use Rattle.std.specs.Prelude.{List, [], ◌∷◌}
use Rattle.term_text.specs.Graph.{graphs}
use Rattle.term_text.specs.Text.{LineView}
use Rattle.term_text.specs.Wrap.{NoneWider}
use Rattle.md_picture.specs.declared.columns.Column.{Column}
use Rattle.md_picture.specs.Picture.{first_cell, other_cells}

-- no grapheme of a cell is wider than its column
abbrev pub RowFits : List Column → List LineView → Type 0
RowFits [] cells = Unit {0}
RowFits (column ∷ columns) cells = NoneWider column.width (graphs (first_cell cells)) × RowFits columns (other_cells cells)

abbrev pub RowsFit : List Column → List (List LineView) → Type 0
RowsFit columns [] = Unit {0}
RowsFit columns (row ∷ rows) = RowFits columns row × RowsFit columns rows
