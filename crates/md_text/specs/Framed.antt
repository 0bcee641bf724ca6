-- Lines told by their parts: quote marks, pieces, and blanks that indent.
use Rattle.std.specs.Prelude.{◌≡◌, ℕ, List, [], ◌∷◌, ◌++◌, map, replicate}
use Rattle.term_text.specs.declared.style.Style.{Style}
use Rattle.term_text.specs.Text.{SpanView, LineView}
use Rattle.term_text.specs.Lists.{joined}
use Rattle.md_text.specs.Marks.{Mark, Open, Put, Pad, plain_span, quoted_line}

-- what stands in a line behind its quote marks
pub data Part : Type 0 where
  Piece : SpanView → Part
  Blanks : ℕ → Part

pub record FramedLine : Type 0 where
  pub quotes : ℕ
  pub style : Style
  pub parts : List Part

abbrev pub part_span : Part → SpanView
part_span (Piece span) = span
part_span (Blanks blanks) = plain_span (replicate blanks 32)

abbrev pub framed_line : FramedLine → LineView
framed_line line =
    record { spans = (quoted_line line.quotes line.style).spans ++ map part_span line.parts; style = line.style }

abbrev pub pieces_among : List Part → List SpanView
pieces_among [] = []
pieces_among (Piece span ∷ parts) = span ∷ pieces_among parts
pieces_among (Blanks blanks ∷ parts) = pieces_among parts

-- the pieces of lines, without quote marks and blanks, joined in order
abbrev pub pieces_in : List FramedLine → List SpanView
pieces_in lines = joined (map (λ (line : FramedLine). pieces_among line.parts) lines)

-- lines hold these spans: they are quote marks, blanks that indent, and else the spans, each whole, once and in order
pub record HoldsPieces (lines : List LineView) (spans : List SpanView) : Type 0 where
  pub framed : List FramedLine
  pub drawn : lines ≡ map framed_line framed
  pub held : pieces_in framed ≡ spans
