-- What a walk along the rows of lines has left.
use Rattle.std.specs.Prelude.{List, [], ◌++◌, Option, Some, None, drop}
use Rattle.term_text.specs.declared.cutter.Cutter.{Cutter}
use Rattle.term_core.specs.Graph.{Grapheme}
use Rattle.term_core.specs.Rows.{rows_left}
use Rattle.term_widgets.specs.declared.page_rows.PageRows.{PageRows}
use Rattle.term_widgets.specs.Page.{rows_of}

-- the rows of the line that is being cut
abbrev pub cutter_rows : Option Cutter → List (List Grapheme)
cutter_rows None = []
cutter_rows (Some cutter) = rows_left cutter

abbrev pub line_rows : PageRows → List (List Grapheme)
line_rows s = cutter_rows s.cutter

-- the rows of the later lines
unfoldable pub later_rows : PageRows → List (List Grapheme)
later_rows s = rows_of s.width (drop s.place s.lines.now)

-- the rows that are still to come
unfoldable pub page_left : PageRows → List (List Grapheme)
page_left s = line_rows s ++ later_rows s
