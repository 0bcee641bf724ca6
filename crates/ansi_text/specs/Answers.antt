-- What a call answers for ANSI text.
use Rattle.std.specs.Prelude.{ℕ, ◌≡◌, List, true, false, Result, MatchResult}
use Rattle.term_text.specs.Text.{LineView}
use Rattle.term_text.specs.declared.style.Style.{Style}
use Rattle.ansi_text.specs.declared.error.Error.{Error}
use Rattle.ansi_text.specs.declared.error.Error.TheVariants.{Utf8Error}
use Rattle.ansi_text.specs.Ansi.{ansi_line, is_text, line_is_text, style_after_line}

-- the answer is the lines, each span being UTF-8; Utf8Error comes only where some span is not
abbrev pub GivesLines : List LineView → Result (List LineView) Error → Type 0
GivesLines lines result = MatchResult result (λ text. (text ≡ lines) × (is_text lines ≡ true)) (λ e. e ≡ Utf8Error → is_text lines ≡ false)

-- the answer is the one line of the bytes, begun in the style, and the style after it, each span being UTF-8;
-- Utf8Error comes only where some span is not
abbrev pub GivesLine : Style → List ℕ → Result (LineView × Style) Error → Type 0
GivesLine style bytes result =
    MatchResult result
    (λ r. (r.0 ≡ ansi_line style bytes) × (r.1 ≡ style_after_line style bytes) × (line_is_text (ansi_line style bytes) ≡ true))
    (λ e. e ≡ Utf8Error → line_is_text (ansi_line style bytes) ≡ false)

-- the answer is the style after the one line of the bytes, begun in the style, each span being UTF-8; the one refusal comes
-- exactly where some span is not
abbrev pub GivesStyle : Style → List ℕ → Result Style Error → Type 0
GivesStyle style bytes result =
    MatchResult result
    (λ after. (after ≡ style_after_line style bytes) × (line_is_text (ansi_line style bytes) ≡ true))
    (λ e. (e ≡ Utf8Error) × (line_is_text (ansi_line style bytes) ≡ false))
