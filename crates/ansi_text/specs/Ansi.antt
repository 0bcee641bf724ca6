-- Text with ANSI colours: the input is cut into lines, each line is divided into pieces, and one fold of all sequences gives
-- each stretch its style.
use Rattle.std.specs.Prelude.{ℕ, Bool, false, List, [], ◌∷◌, map}
use Rattle.std.specs.List.{list_all}
use Rattle.std.specs.Str.{is_utf8}
use Rattle.term_text.specs.LineEnds.{raw_lines}
use Rattle.term_text.specs.Style.{no_style, reset_style}
use Rattle.term_text.specs.Text.{SpanView, LineView}
use Rattle.term_text.specs.declared.style.Style.{Style}
use Rattle.ansi_text.specs.declared.item.Item.{Item}
use Rattle.ansi_text.specs.Codes.{after_item}
use Rattle.ansi_text.specs.Pieces.{Piece, sgr, cut, stretch, pieces}

-- the input cut at LF, CRLF and CR; empty input is one empty line, and an end that closes the input adds none
abbrev pub lines_of : List ℕ → List (List ℕ)
lines_of [] = [] ∷ []
lines_of (b ∷ bs) = raw_lines (b ∷ bs)

-- the style after the items, each acting on the style before it
unfoldable pub after_items : Style → List Item → Style
after_items style [] = style
after_items style (i ∷ is) = after_items (after_item style i) is

-- a sequence without items is a reset
abbrev pub after_sequence : Style → List Item → Style
after_sequence style [] = reset_style
after_sequence style (i ∷ is) = after_items style (i ∷ is)

-- the style after a piece
abbrev pub after_piece : Style → Piece → Style
after_piece style (sgr items) = after_sequence style items
after_piece style cut = style
after_piece style (stretch text) = style

-- the style after the pieces: the fold of all their sequences
unfoldable pub after_pieces : Style → List Piece → Style
after_pieces style [] = style
after_pieces style (piece ∷ pieces) = after_pieces (after_piece style piece) pieces

-- each stretch is a span in the style after the sequences before it
unfoldable pub spans : Style → List Piece → List SpanView
spans style [] = []
spans style (sgr items ∷ pieces) = spans (after_sequence style items) pieces
spans style (cut ∷ pieces) = spans style pieces
spans style (stretch text ∷ pieces) = record { text = text; style = style; is_glyph = false } ∷ spans style pieces

abbrev pub line_view : List SpanView → LineView
line_view spans = record { spans = spans; style = no_style }

-- the lines of divided input; the style runs on from line to line
unfoldable pub styled : Style → List (List Piece) → List LineView
styled style [] = []
styled style (line ∷ lines) = line_view (spans style line) ∷ styled (after_pieces style line) lines

-- the one line of bytes without a line end, begun in a style, and the style after it
abbrev pub ansi_line : Style → List ℕ → LineView
ansi_line style bytes = line_view (spans style (pieces bytes))

abbrev pub style_after_line : Style → List ℕ → Style
style_after_line style bytes = after_pieces style (pieces bytes)

-- the lines of the input, begun in a style
abbrev pub ansi_from : Style → List ℕ → List LineView
ansi_from style bytes = styled style (map pieces (lines_of bytes))

-- the lines of the input
abbrev pub ansi : List ℕ → List LineView
ansi bytes = ansi_from no_style bytes

-- the style after the lines: the fold of all their sequences
unfoldable pub after_lines : Style → List (List Piece) → Style
after_lines style [] = style
after_lines style (line ∷ lines) = after_lines (after_pieces style line) lines

-- the style after the input, begun in a style
abbrev pub style_after : Style → List ℕ → Style
style_after style bytes = after_lines style (map pieces (lines_of bytes))

-- each span of a line is UTF-8
abbrev pub line_is_text : LineView → Bool
line_is_text line = list_all (λ (s : SpanView). is_utf8 s.text) line.spans

-- each span of the lines is UTF-8
abbrev pub is_text : List LineView → Bool
is_text lines = list_all line_is_text lines
