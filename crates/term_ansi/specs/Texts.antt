-- Cells whose symbols are text.
use Rattle.std.specs.Prelude.{Bool, ◌&&◌, List}
use Rattle.std.specs.List.{list_any, list_all}
use Rattle.std.specs.Str.{is_utf8}
use Rattle.term_core.specs.Cells.{CellView}
use Rattle.term_core.specs.Visited.{visited}
use Rattle.term_ansi.specs.Printed.{is_bad}

-- the symbol is UTF-8, which it is in each buffer
abbrev pub is_text_cell : CellView → Bool
is_text_cell c = is_utf8 c.symbol

-- so for each visited cell of a row
abbrev pub is_text_row : List CellView → Bool
is_text_row row = list_all is_text_cell (visited row)

-- the symbol is UTF-8 and cannot be printed
abbrev pub is_bad_text : CellView → Bool
is_bad_text c = is_text_cell c && is_bad c

-- so for some visited cell of a row, and of some row
abbrev pub is_bad_text_row : List CellView → Bool
is_bad_text_row row = list_any is_bad_text (visited row)

abbrev pub has_bad_text : List (List CellView) → Bool
has_bad_text rows = list_any is_bad_text_row rows
