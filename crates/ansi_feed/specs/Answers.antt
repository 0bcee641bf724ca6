-- What the readers of lines answer.
use Rattle.std.specs.Prelude.{ℕ, ◌≡◌, List, ◌++◌, true, false, Result, MatchResult}
use Rattle.std.specs.Borrow.{Bor}
use Rattle.term_text.specs.Text.{LineView}
use Rattle.term_text.specs.declared.style.Style.{Style}
use Rattle.ansi_text.specs.Ansi.{ansi_line, is_text, line_is_text, style_after, style_after_line}
use Rattle.ansi_feed.specs.declared.error.FeedError.{FeedError}
use Rattle.ansi_feed.specs.declared.error.FeedError.TheVariants.{Utf8Error}
use Rattle.ansi_feed.specs.declared.lines.Fresh.{Fresh}
use Rattle.ansi_feed.specs.Feed.{last_of, lines_from}

-- the answer is the one line of the bytes and the style after it, each span being UTF-8; Utf8Error comes only where some span is not
abbrev pub ReadsLine : Style → List ℕ → Result (LineView × Style) FeedError → Type 0
ReadsLine style bytes result =
    MatchResult result
    (λ r. (r.0 ≡ ansi_line style bytes) × (r.1 ≡ style_after_line style bytes) × (line_is_text (ansi_line style bytes) ≡ true))
    (λ e. e ≡ Utf8Error → line_is_text (ansi_line style bytes) ≡ false)

-- the answer is the last lines of the bytes and the style after all of them, each span of each line being UTF-8; Utf8Error
-- comes only where some span is not
abbrev pub ReadsLines : ℕ → Style → List ℕ → Result Fresh FeedError → Type 0
ReadsLines bound style bytes result =
    MatchResult result
    (λ r. (r.lines.items ≡ last_of bound (lines_from style bytes)) × (r.style ≡ style_after style bytes) × (is_text (lines_from style bytes) ≡ true))
    (λ e. e ≡ Utf8Error → is_text (lines_from style bytes) ≡ false)

-- the answer is the style after the one line of the bytes, each span being UTF-8; the one refusal comes exactly where some
-- span is not
abbrev pub ReadsStyle : Style → List ℕ → Result Style FeedError → Type 0
ReadsStyle style bytes result =
    MatchResult result
    (λ after. (after ≡ style_after_line style bytes) × (line_is_text (ansi_line style bytes) ≡ true))
    (λ e. (e ≡ Utf8Error) × (line_is_text (ansi_line style bytes) ≡ false))

-- lines that would not be kept were passed over: behind any lines, the last ones are the same, and so are the style after
-- all lines and whether they are UTF-8
pub record Passes (bound : ℕ) (begun : Style) (bytes : List ℕ) (style : Style) (rest : List ℕ) : Type 0 where
  pub are_lines : (lines : List LineView) → last_of bound (lines ++ lines_from style rest) ≡ last_of bound (lines ++ lines_from begun bytes)
  pub is_style : style_after style rest ≡ style_after begun bytes
  pub are_text : is_text (lines_from style rest) ≡ is_text (lines_from begun bytes)

-- the answer is the style and what is left behind lines that would not be kept; the one refusal comes where some span of
-- some line is not UTF-8
abbrev pub PassesLines : ℕ → Style → List ℕ → Result (Style × Bor (List ℕ)) FeedError → Type 0
PassesLines bound style bytes result =
    MatchResult result
    (λ r. Passes bound style bytes r.0 r.1.now)
    (λ e. (e ≡ Utf8Error) × (is_text (lines_from style bytes) ≡ false))
