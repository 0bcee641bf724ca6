-- Marks, and the lines that they draw.
use Rattle.std.specs.Prelude.{ℕ, ◌==◌, if◌then◌else◌, Bool, true, false, List, [], ◌∷◌, ◌++◌, codes, replicate}
use Rattle.term_text.specs.declared.style.Style.{Style}
use Rattle.term_text.specs.Style.{no_style}
use Rattle.term_text.specs.Text.{SpanView, LineView}

abbrev pub styled_span : List ℕ → Style → SpanView
styled_span text style = record { text = text; style = style; is_glyph = false }

abbrev pub plain_span : List ℕ → SpanView
plain_span text = styled_span text no_style

-- a mark begins a line of a style behind its quote marks, or adds a span to the last line, or adds blanks to it
pub data Mark : Type 0 where
  Open : ℕ → Style → Mark
  Put : SpanView → Mark
  Pad : ℕ → Mark

-- an empty line of this style: a span for each quote mark, and one of a blank if there are any
abbrev pub quoted_line : ℕ → Style → LineView
quoted_line quotes style =
    record {
      spans = replicate quotes (plain_span (codes ">")) ++ (if quotes == 0 then [] else plain_span (codes " ") ∷ []);
      style = style;
    }

abbrev pub with_span : LineView → SpanView → LineView
with_span line span = record { spans = line.spans ++ span ∷ []; style = line.style }

-- the last line gets one more span
abbrev pub put_last : List LineView → SpanView → List LineView
put_last [] span = []
put_last (line ∷ []) span = with_span line span ∷ []
put_last (line ∷ next ∷ lines) span = line ∷ put_last (next ∷ lines) span

abbrev pub draw : List LineView → Mark → List LineView
draw lines (Open quotes style) = lines ++ quoted_line quotes style ∷ []
draw lines (Put span) = put_last lines span
draw lines (Pad blanks) = put_last lines (plain_span (replicate blanks 32))

-- marks draw behind the lines that stand
abbrev pub draws : List LineView → List Mark → List LineView
draws lines [] = lines
draws lines (mark ∷ marks) = draws (draw lines mark) marks

-- the first mark, if there is one, begins a line
abbrev pub begins_line : List Mark → Bool
begins_line [] = true
begins_line (Open quotes style ∷ marks) = true
begins_line (Put span ∷ marks) = false
begins_line (Pad blanks ∷ marks) = false
