-- What stands for an image: a marker, and its description, its destination or both.
use Rattle.std.specs.Prelude.{ℕ, Bool, true, false, not, if◌then◌else◌, List, [], ◌∷◌, ◌++◌, codes}
use Rattle.term_text.specs.declared.style.Style.{Style}
use Rattle.term_text.specs.Text.{SpanView}
use Rattle.md_text.specs.declared.options.ImageFallback.{ImageFallback}
use Rattle.md_text.specs.declared.options.ImageFallback.TheVariants.{AltText, Url, AltTextAndUrl}
use Rattle.md_text.specs.Marks.{styled_span}
use Rattle.md_text.specs.Spans.{piece}

abbrev pub is_empty : List SpanView → Bool
is_empty [] = true
is_empty (span ∷ spans) = false

abbrev pub destination : Style → List ℕ → List SpanView
destination style dest = piece (styled_span dest style)

-- the description, or if there is none the destination
abbrev pub alt_text : Style → List ℕ → List SpanView → List SpanView
alt_text style dest [] = destination style dest
alt_text style dest (span ∷ spans) = span ∷ spans

-- a destination in parentheses, behind a blank; nothing for an empty one
abbrev pub in_parentheses : Style → List ℕ → List SpanView
in_parentheses style [] = []
in_parentheses style (b ∷ bs) = piece (styled_span (codes " (" ++ ((b ∷ bs) ++ codes ")")) style)

-- the description with the destination behind it, or only the one that is not empty
abbrev pub alt_text_and_url : Style → List ℕ → List SpanView → List SpanView
alt_text_and_url style dest [] = destination style dest
alt_text_and_url style dest (span ∷ spans) = (span ∷ spans) ++ in_parentheses style dest

abbrev pub content : ImageFallback → Style → List ℕ → List SpanView → List SpanView
content AltText style dest description = alt_text style dest description
content Url style dest description = destination style dest
content AltTextAndUrl style dest description = alt_text_and_url style dest description

-- a blank stands at the marker's end if content follows
abbrev pub marker_before : Style → Bool → SpanView
marker_before style follows = styled_span (if follows then codes "[img] " else codes "[img]") style

-- an image in its style, from its destination and the pieces of its description
abbrev pub image : ImageFallback → Style → List ℕ → List SpanView → List SpanView
image fallback style dest description =
    let shown = content fallback style dest description in marker_before style (not (is_empty shown)) ∷ shown
