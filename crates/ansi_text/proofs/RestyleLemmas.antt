-- A line whose style is read, and not its spans.
use Rattle.std.proofs.Common.{◌≡◌, ◌&&◌, ℕ, true, false, List, [], ◌∷◌, length, take, drop, refl, ap, sym, ◌∙◌, subst, arith}
use Rattle.std.proofs.lemmas.List.Folds.{list_all-append}
use Rattle.std.specs.List.{list_all}
use Rattle.std.specs.Str.{is_utf8}
use Rattle.term_text.specs.Text.{SpanView}
use Rattle.term_text.specs.declared.style.Style.{Style}
use Rattle.ansi_text.specs.Pieces.{pieces_within, first_escape}
use Rattle.ansi_text.specs.Ansi.{after_pieces, spans, line_is_text, ansi_line, style_after_line}
use Rattle.ansi_text.specs.Reads.{StyleRead, past_escape}
use Rattle.ansi_text.proofs.LineLemmas.{after-step, bad_spans, spans-step, text_spans, text_spans-are_text}

-- what was read of a line: the style so far, and what is left
pub record Restyles (begun : Style) (bytes : List ℕ) (style : Style) (rest : List ℕ) : Type 0 where
  pub style_is : style_after_line style rest ≡ style_after_line begun bytes
  pub are_text : line_is_text (ansi_line style rest) ≡ line_is_text (ansi_line begun bytes)

pub Restyles-start : (begun : Style) (bytes : List ℕ) → Restyles begun bytes begun bytes
Restyles-start begun bytes = record { style_is = refl; are_text = refl }

-- a line is text where its first stretch and what follows the escape behind it are
text-step : (style : Style) (rest : List ℕ) (past : StyleRead) → past ≡ past_escape style (drop (first_escape rest) rest)
    → line_is_text (ansi_line style rest)
    ≡ (list_all (λ (s : SpanView). is_utf8 s.text) (text_spans style (take (first_escape rest) rest)) && line_is_text (ansi_line past.style past.rest))
text-step style rest past past_is =
    subst (λ (p : StyleRead). line_is_text (ansi_line style rest)
    ≡ (list_all (λ (s : SpanView). is_utf8 s.text) (text_spans style (take (first_escape rest) rest)) && line_is_text (ansi_line p.style p.rest)))
    (sym past_is)
    (ap (list_all (λ (s : SpanView). is_utf8 s.text)) (spans-step style rest)
    ∙ list_all-append (λ (s : SpanView). is_utf8 s.text) (text_spans style (take (first_escape rest) rest)) _)

-- a stretch that is UTF-8, and the escape behind it
pub Restyles-step : (begun : Style) (bytes : List ℕ) (style : Style) (rest text : List ℕ) (after : StyleRead) → Restyles begun bytes style rest
    → text ≡ take (first_escape rest) rest → is_utf8 text ≡ true → after ≡ past_escape style (drop (first_escape rest) rest)
    → Restyles begun bytes after.style after.rest
Restyles-step begun bytes style rest text after restyles text_is utf8 after_is = record {
  style_is =
      ap (λ (p : StyleRead). style_after_line p.style p.rest) after_is ∙ sym (after-step style rest) ∙ restyles.style_is;
  are_text =
      sym (text-step style rest after after_is
      ∙ ap (λ v. v && line_is_text (ansi_line after.style after.rest))
      (text_spans-are_text style (take (first_escape rest) rest) (sym (ap is_utf8 text_is) ∙ utf8)))
      ∙ restyles.are_text;
}

-- a stretch that is not UTF-8
pub Restyles-bad : (begun : Style) (bytes : List ℕ) (style : Style) (rest text : List ℕ) → Restyles begun bytes style rest
    → text ≡ take (first_escape rest) rest → is_utf8 text ≡ false → line_is_text (ansi_line begun bytes) ≡ false
Restyles-bad begun bytes style rest text restyles text_is bad =
    sym restyles.are_text ∙ text-step style rest (past_escape style (drop (first_escape rest) rest)) refl
    ∙ ap (λ v. v && line_is_text (ansi_line (past_escape style (drop (first_escape rest) rest)).style (past_escape style (drop (first_escape rest) rest)).rest))
    (bad_spans style (take (first_escape rest) rest) (sym (ap is_utf8 text_is) ∙ bad))

-- nothing is left
pub Restyles-end : (begun : Style) (bytes : List ℕ) (style : Style) (rest : List ℕ) → Restyles begun bytes style rest → length rest ≡ 0
    → (style ≡ style_after_line begun bytes) × (line_is_text (ansi_line begun bytes) ≡ true)
unfolding pieces_within spans after_pieces
Restyles-end begun bytes style [] restyles e = (restyles.style_is, sym restyles.are_text)
Restyles-end begun bytes style (b ∷ rest) restyles e = absurd (omega (arith, e))
