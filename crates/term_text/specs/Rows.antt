-- What a cutter, a row and an iterator over a row have left.
use Rattle.std.specs.Prelude.{List, [], take, if◌then◌else◌}
use Rattle.term_text.specs.declared.cutter.Cutter.{Cutter}
use Rattle.term_text.specs.declared.cutter.Row.{Row}
use Rattle.term_text.specs.declared.cutter.RowGraphemes.{RowGraphemes}
use Rattle.term_text.specs.Graph.{Grapheme}
use Rattle.term_text.specs.LineIter.{line_left}
use Rattle.term_text.specs.Wrap.{wrap}

-- the rows that are still to come
unfoldable pub rows_left : Cutter → List (List Grapheme)
rows_left s = if s.is_done then [] else wrap s.width (line_left s.graphs)

-- the graphemes of a row
unfoldable pub row_graphs : Row → List Grapheme
row_graphs s = take s.len (line_left s.graphs)

-- the graphemes of a row that are still to come
unfoldable pub row_left : RowGraphemes → List Grapheme
row_left s = take s.len (line_left s.graphs)
