-- Spans with a text.
use Rattle.std.specs.Prelude.{◌==◌, if◌then◌else◌, List, [], ◌∷◌, ◌++◌, length}
use Rattle.term_text.specs.Text.{SpanView}

-- a span with a text is a piece, and one without is none
abbrev pub piece : SpanView → List SpanView
piece span = if length span.text == 0 then [] else span ∷ []

-- the pieces of each of some things
abbrev pub each_pieces : {A : Type 0} → (A → List SpanView) → List A → List SpanView
each_pieces one [] = []
each_pieces one (x ∷ xs) = one x ++ each_pieces one xs

abbrev pub pieces_of : List SpanView → List SpanView
pieces_of spans = each_pieces piece spans
