-- A line that is being read.
use Rattle.std.specs.Prelude.{ℕ, ◌==◌, Bool, not, List, [], ◌∷◌, ◌++◌, false, length, if◌then◌else◌}
use Rattle.std.specs.List.{list_all}
use Rattle.term_text.specs.Text.{LineView, SpanView}
use Rattle.term_text.specs.declared.style.Style.{Style}

-- a text in a style, which is no glyph
abbrev pub plain_span : List ℕ → Style → SpanView
plain_span text style = record { text = text; style = style; is_glyph = false }

-- the line with the text as a span at its end, nothing where it is empty
abbrev pub pushed : LineView → Style → List ℕ → LineView
pushed line style text = record line { spans = if length text == 0 then line.spans else line.spans ++ plain_span text style ∷ [] }

-- no span of the line is empty
abbrev pub is_filled : LineView → Bool
is_filled line = list_all (λ (s : SpanView). not (length s.text == 0)) line.spans

-- no span of the lines is empty
abbrev pub all_filled : List LineView → Bool
all_filled lines = list_all is_filled lines
