-- What the iterators of graphemes have left.
use Rattle.std.specs.Prelude.{ℕ, List, [], ◌∷◌, ◌++◌, Option, Some, None, chars, map, drop}
use Rattle.std.specs.Borrow.{Bor}
use Rattle.unicode_segmentation.specs.Iter.{graphemes_left}
use Rattle.unicode_segmentation.specs.declared.grapheme.Graphemes.{Graphemes as Clusters}
use Rattle.term_text.specs.declared.grapheme.Graph.{Graph}
use Rattle.term_text.specs.declared.graphs.Graphemes.{Graphemes}
use Rattle.term_text.specs.Graph.{Grapheme, visible}
use Rattle.term_text.specs.Plain.{byte_grapheme, plain_grapheme}

-- what a clause reads of a `Graph`
abbrev pub grapheme : Graph → Grapheme
grapheme g = record { symbol = g.symbol.now; style = g.style; width = g.width; blank = g.blank }

abbrev pub glyph_pieces : Option (Bor (List ℕ)) → List (List ℕ)
glyph_pieces None = []
glyph_pieces (Some text) = text.now ∷ []

abbrev pub cluster_pieces : Option Clusters → List (List ℕ)
cluster_pieces None = []
cluster_pieces (Some clusters) = graphemes_left clusters

-- the pieces that are still to come
unfoldable pub pieces_left : Graphemes → List (List ℕ)
pieces_left s = glyph_pieces s.glyph ++ cluster_pieces s.pieces

-- the printable bytes in front that are still to come
unfoldable pub stretch_left : Graphemes → List ℕ
stretch_left s = drop s.passed s.stretch.now

-- the plain characters behind them, each a grapheme
unfoldable pub plain_left : Graphemes → List Grapheme
plain_left s = map (plain_grapheme s.style) (chars s.plain.now)

-- the visible graphemes that are still to come
unfoldable pub graphs_left : Graphemes → List Grapheme
graphs_left s = map (byte_grapheme s.style) (stretch_left s) ++ (plain_left s ++ visible s.style (pieces_left s))
