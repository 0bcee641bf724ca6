-- What an iterator over a line has left.
use Rattle.std.specs.Prelude.{List, ◌++◌, drop}
use Rattle.term_text.specs.declared.line_graphs.LineGraphemes.{LineGraphemes}
use Rattle.term_text.specs.Graph.{Grapheme, spans_graphs}
use Rattle.term_text.specs.Iter.{graphs_left}

-- the visible graphemes that are still to come
unfoldable pub line_left : LineGraphemes → List Grapheme
line_left s = graphs_left s.current ++ spans_graphs s.under (drop s.place s.spans.now)
