-- The visible graphemes of spans and lines.
use Rattle.std.specs.Prelude.{ℕ, Bool, true, false, not, ◌&&◌, nat_le, max, List, [], ◌∷◌, ◌++◌, sum_by, chars, if◌then◌else◌}
use Rattle.std.specs.Char.{is_whitespace, is_control}
use Rattle.std.specs.List.{list_any, list_all}
use Rattle.unicode_segmentation.specs.Grapheme.{graphemes}
use Rattle.unicode_width.specs.Width.{str_width}
use Rattle.term_text.specs.declared.style.Style.{Style}
use Rattle.term_text.specs.Style.{patch}
use Rattle.term_text.specs.Text.{SpanView, LineView}

-- a visible grapheme: its bytes, its style, its columns, and whether all its characters are whitespace
pub record Grapheme : Type 0 where
  pub symbol : List ℕ
  pub style : Style
  pub width : ℕ
  pub blank : Bool

-- the columns of a piece of text
abbrev pub width_of : List ℕ → ℕ
width_of piece = str_width false (chars piece)

-- a piece is visible if it has no control character and takes a column at least
abbrev pub is_visible : List ℕ → Bool
is_visible piece = not (list_any is_control (chars piece)) && nat_le 1 (width_of piece)

abbrev pub is_blank : List ℕ → Bool
is_blank piece = list_all is_whitespace (chars piece)

abbrev pub grapheme_of : Style → List ℕ → Grapheme
grapheme_of style piece = record { symbol = piece; style = style; width = width_of piece; blank = is_blank piece }

-- the visible pieces, each as a grapheme of the style
unfoldable pub visible : Style → List (List ℕ) → List Grapheme
visible style [] = []
visible style (piece ∷ pieces) =
    if is_visible piece then grapheme_of style piece ∷ visible style pieces else visible style pieces

-- the pieces of a span: a glyph is one
abbrev pub pieces_of : SpanView → List (List ℕ)
pieces_of span = if span.is_glyph then span.text ∷ [] else graphemes true span.text

-- the visible graphemes of a span, over the style `under`
abbrev pub span_graphs : Style → SpanView → List Grapheme
span_graphs under span = visible (patch under span.style) (pieces_of span)

unfoldable pub spans_graphs : Style → List SpanView → List Grapheme
spans_graphs under [] = []
spans_graphs under (span ∷ spans) = span_graphs under span ++ spans_graphs under spans

-- the visible graphemes of a line
abbrev pub graphs : LineView → List Grapheme
graphs line = spans_graphs line.style line.spans

-- the columns of graphemes
abbrev pub columns : List Grapheme → ℕ
columns gs = sum_by (λ g. g.width) gs

-- the columns of the widest of graphemes
unfoldable pub widest : List Grapheme → ℕ
widest [] = 0
widest (g ∷ gs) = max g.width (widest gs)
