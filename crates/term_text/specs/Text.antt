-- What contracts see of a span and a line.
use Rattle.std.specs.Prelude.{ℕ, Bool, false, List, [], ◌∷◌, length, ◌==◌, if◌then◌else◌}
use Rattle.term_text.specs.Style.{no_style}
use Rattle.term_text.specs.declared.style.Style.{Style}

-- a text in one style, and whether it is a glyph
pub record SpanView : Type 0 where
  pub text : List ℕ
  pub style : Style
  pub is_glyph : Bool

-- the spans of a line, and the style under them
pub record LineView : Type 0 where
  pub spans : List SpanView
  pub style : Style

-- a plain span for each text that is not empty
unfoldable pub raw_spans : List (List ℕ) → List SpanView
raw_spans [] = []
raw_spans (text ∷ texts) =
    if length text == 0 then raw_spans texts else record { text = text; style = no_style; is_glyph = false } ∷ raw_spans texts
