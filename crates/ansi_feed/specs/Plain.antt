-- Kept lines as plain text, and the word of the command line.
use Rattle.std.specs.Prelude.{ℕ, List, [], ◌∷◌, ◌++◌, map, Option, None}
use Rattle.programs.specs.Number.{number_of}
use Rattle.term_text.specs.Lists.{joined}
use Rattle.term_text.specs.Style.{no_style}
use Rattle.term_text.specs.Text.{LineView, SpanView}
use Rattle.ansi_feed.specs.Feed.{last_of, lines_from}

-- the texts of a line's spans, one behind the other
abbrev pub line_text : LineView → List ℕ
line_text line = joined (map (λ (s : SpanView). s.text) line.spans)

-- the text of each line, and LF
unfoldable pub printed : List LineView → List ℕ
printed [] = []
printed (line ∷ lines) = line_text line ++ (10 ∷ printed lines)

-- the lines of a whole input: those of `ansi`, and none of an empty one
abbrev pub log_lines : List ℕ → List LineView
log_lines input = lines_from no_style input

-- what is printed of an input: its last lines
abbrev pub shown : ℕ → List ℕ → List ℕ
shown bound input = printed (last_of bound (log_lines input))

-- the greatest bound
abbrev pub bound_limit : ℕ
bound_limit = 100000

-- exactly one word: the bound
abbrev pub bound_of : List (List ℕ) → Option ℕ
bound_of (word ∷ []) = number_of bound_limit word
bound_of _ = None
