-- The lines that marks draw hold the spans that the marks put.
use Rattle.std.proofs.Common.{◌≡◌, ℕ, List, [], ◌∷◌, ◌++◌, map, true, refl, sym, ap, ◌∙◌, append-nil, append_assoc}
use Rattle.std.proofs.lemmas.List.{map-append}
use Rattle.term_text.specs.declared.style.Style.{Style}
use Rattle.term_text.specs.Text.{SpanView, LineView}
use Rattle.md_tree.specs.Tree.{Nodes}
use Rattle.md_tree.specs.Good.{good}
use Rattle.md_text.specs.Look.{Look}
use Rattle.md_text.specs.Environment.{first_environment, first_spacing}
use Rattle.md_text.specs.Marks.{Mark, Open, Put, Pad, quoted_line, with_span, put_last, draw, draws, begins_line}
use Rattle.md_text.specs.Framed.{Part, Piece, Blanks, FramedLine, part_span, framed_line, pieces_among, pieces_in, HoldsPieces}
use Rattle.md_text.specs.Layout.{document_layout, document_lines}
use Rattle.md_text.specs.Pieces.{puts, document_pieces}
use Rattle.md_text.proofs.Pieces.{puts-layout}
use Rattle.md_text.proofs.Starts.{document-begins}

-- marks told by the parts that they add
abbrev with_part : FramedLine → Part → FramedLine
with_part line part = record { quotes = line.quotes; style = line.style; parts = line.parts ++ part ∷ [] }

abbrev part_last : List FramedLine → Part → List FramedLine
part_last [] part = []
part_last (line ∷ []) part = with_part line part ∷ []
part_last (line ∷ next ∷ lines) part = line ∷ part_last (next ∷ lines) part

abbrev frame : List FramedLine → Mark → List FramedLine
frame lines (Open quotes style) = lines ++ record { quotes = quotes; style = style; parts = [] } ∷ []
frame lines (Put span) = part_last lines (Piece span)
frame lines (Pad blanks) = part_last lines (Blanks blanks)

abbrev frames : List FramedLine → List Mark → List FramedLine
frames lines [] = lines
frames lines (mark ∷ marks) = frames (frame lines mark) marks

framed_line-with_part : (line : FramedLine) (part : Part) →
    framed_line (with_part line part) ≡ with_span (framed_line line) (part_span part)
framed_line-with_part line part =
    let marks = (quoted_line line.quotes line.style).spans in
    ap (λ (spans : List SpanView). record { spans = spans; style = line.style })
    (ap (λ (spans : List SpanView). marks ++ spans) (map-append part_span line.parts (part ∷ []))
    ∙ sym (append_assoc marks (map part_span line.parts) (part_span part ∷ [])))

drawn-part_last : (lines : List FramedLine) (part : Part) →
    map framed_line (part_last lines part) ≡ put_last (map framed_line lines) (part_span part)
drawn-part_last [] part = refl
drawn-part_last (line ∷ []) part = ap (λ (x : LineView). x ∷ []) (framed_line-with_part line part)
drawn-part_last (line ∷ next ∷ lines) part = ap (λ (xs : List LineView). framed_line line ∷ xs) (drawn-part_last (next ∷ lines) part)

drawn-frame : (lines : List FramedLine) (mark : Mark) → map framed_line (frame lines mark) ≡ draw (map framed_line lines) mark
drawn-frame lines (Open quotes style) =
    map-append framed_line lines (record { quotes = quotes; style = style; parts = [] } ∷ [])
    ∙ ap (λ (spans : List SpanView). map framed_line lines ++ record { spans = spans; style = style } ∷ [])
    (append-nil (quoted_line quotes style).spans)
drawn-frame lines (Put span) = drawn-part_last lines (Piece span)
drawn-frame lines (Pad blanks) = drawn-part_last lines (Blanks blanks)

drawn-frames : (lines : List FramedLine) (marks : List Mark) → map framed_line (frames lines marks) ≡ draws (map framed_line lines) marks
drawn-frames lines [] = refl
drawn-frames lines (mark ∷ marks) =
    drawn-frames (frame lines mark) marks ∙ ap (λ (xs : List LineView). draws xs marks) (drawn-frame lines mark)

pieces_among-more : (parts : List Part) (span : SpanView) → pieces_among (parts ++ Piece span ∷ []) ≡ pieces_among parts ++ span ∷ []
pieces_among-more [] span = refl
pieces_among-more (Piece other ∷ parts) span = ap (λ (xs : List SpanView). other ∷ xs) (pieces_among-more parts span)
pieces_among-more (Blanks blanks ∷ parts) span = pieces_among-more parts span

pieces_among-blanks : (parts : List Part) (blanks : ℕ) → pieces_among (parts ++ Blanks blanks ∷ []) ≡ pieces_among parts
pieces_among-blanks [] blanks = refl
pieces_among-blanks (Piece other ∷ parts) blanks = ap (λ (xs : List SpanView). other ∷ xs) (pieces_among-blanks parts blanks)
pieces_among-blanks (Blanks others ∷ parts) blanks = pieces_among-blanks parts blanks

pieces_in-piece : (line : FramedLine) (lines : List FramedLine) (span : SpanView) →
    pieces_in (part_last (line ∷ lines) (Piece span)) ≡ pieces_in (line ∷ lines) ++ span ∷ []
pieces_in-piece line [] span =
    append-nil (pieces_among (line.parts ++ Piece span ∷ []))
    ∙ pieces_among-more line.parts span
    ∙ ap (λ (xs : List SpanView). xs ++ span ∷ []) (sym (append-nil (pieces_among line.parts)))
pieces_in-piece line (next ∷ lines) span =
    ap (λ (xs : List SpanView). pieces_among line.parts ++ xs) (pieces_in-piece next lines span)
    ∙ sym (append_assoc (pieces_among line.parts) (pieces_in (next ∷ lines)) (span ∷ []))

pieces_in-blanks : (lines : List FramedLine) (blanks : ℕ) → pieces_in (part_last lines (Blanks blanks)) ≡ pieces_in lines
pieces_in-blanks [] blanks = refl
pieces_in-blanks (line ∷ []) blanks = ap (λ (xs : List SpanView). xs ++ []) (pieces_among-blanks line.parts blanks)
pieces_in-blanks (line ∷ next ∷ lines) blanks =
    ap (λ (xs : List SpanView). pieces_among line.parts ++ xs) (pieces_in-blanks (next ∷ lines) blanks)

pieces_in-line : (lines : List FramedLine) (quotes : ℕ) (style : Style) →
    pieces_in (lines ++ record { quotes = quotes; style = style; parts = [] } ∷ []) ≡ pieces_in lines
pieces_in-line [] quotes style = refl
pieces_in-line (line ∷ lines) quotes style =
    ap (λ (xs : List SpanView). pieces_among line.parts ++ xs) (pieces_in-line lines quotes style)

-- behind a line, every span that is put is held
held-frames : (lines : List FramedLine) (line : FramedLine) (others : List FramedLine) → lines ≡ line ∷ others → (marks : List Mark) →
    pieces_in (frames lines marks) ≡ pieces_in lines ++ puts marks
held-frames lines line others some [] = sym (append-nil (pieces_in lines))
held-frames lines line others some (Open quotes style ∷ marks) =
    held-frames (lines ++ opened ∷ []) line (others ++ opened ∷ []) (ap (λ (xs : List FramedLine). xs ++ opened ∷ []) some) marks
    ∙ ap (λ (xs : List SpanView). xs ++ puts marks) (pieces_in-line lines quotes style)
  where
    opened : FramedLine
    opened = record { quotes = quotes; style = style; parts = [] }
held-frames [] line others some (Put span ∷ marks) = cc
held-frames (a ∷ []) line others some (Put span ∷ marks) =
    held-frames (with_part a (Piece span) ∷ []) (with_part a (Piece span)) [] refl marks
    ∙ ap (λ (xs : List SpanView). xs ++ puts marks) (pieces_in-piece a [] span)
    ∙ append_assoc (pieces_in (a ∷ [])) (span ∷ []) (puts marks)
held-frames (a ∷ b ∷ lines) line others some (Put span ∷ marks) =
    held-frames (part_last (a ∷ b ∷ lines) (Piece span)) a (part_last (b ∷ lines) (Piece span)) refl marks
    ∙ ap (λ (xs : List SpanView). xs ++ puts marks) (pieces_in-piece a (b ∷ lines) span)
    ∙ append_assoc (pieces_in (a ∷ b ∷ lines)) (span ∷ []) (puts marks)
held-frames [] line others some (Pad blanks ∷ marks) = cc
held-frames (a ∷ []) line others some (Pad blanks ∷ marks) =
    held-frames (with_part a (Blanks blanks) ∷ []) (with_part a (Blanks blanks)) [] refl marks
    ∙ ap (λ (xs : List SpanView). xs ++ puts marks) (pieces_in-blanks (a ∷ []) blanks)
held-frames (a ∷ b ∷ lines) line others some (Pad blanks ∷ marks) =
    held-frames (part_last (a ∷ b ∷ lines) (Blanks blanks)) a (part_last (b ∷ lines) (Blanks blanks)) refl marks
    ∙ ap (λ (xs : List SpanView). xs ++ puts marks) (pieces_in-blanks (a ∷ b ∷ lines) blanks)

-- before any line, that is so where the first mark begins one
held-begun : (marks : List Mark) → begins_line marks ≡ true → pieces_in (frames [] marks) ≡ puts marks
held-begun [] begins = refl
held-begun (Open quotes style ∷ marks) begins =
    let opened : FramedLine = record { quotes = quotes; style = style; parts = [] } in
    held-frames (opened ∷ []) opened [] refl marks
held-begun (Put span ∷ marks) begins = cc
held-begun (Pad blanks ∷ marks) begins = cc

pub document-holds : (look : Look) (t : Nodes) → good t ≡ true → HoldsPieces (document_lines look t) (document_pieces look t)
document-holds look t is_good =
    let marks = (document_layout look t).marks in
    record {
      framed = frames [] marks;
      drawn = sym (drawn-frames [] marks);
      held = held-begun marks (document-begins look t is_good) ∙ puts-layout look t first_environment first_spacing;
    }
