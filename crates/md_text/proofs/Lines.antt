-- A span that goes to the last of some lines.
use Rattle.std.proofs.Common.{◌≡◌, List, [], ◌∷◌, ◌++◌, ℕ, ◌-◌, ◌<◌, ◌≢◌, ◌==◌, if◌then◌else◌, Bool, true, false, length, get_or, set, refl, ap, ◌∙◌, arith}
use Rattle.std.proofs.lemmas.Bool.{eqb-true}
use Rattle.term_text.specs.Text.{SpanView, LineView}
use Rattle.md_text.specs.Marks.{put_last, with_span}

put_last-at : (line : LineView) (lines : List LineView) (span : SpanView) (d : LineView) →
    set (line ∷ lines) (length lines) (with_span (get_or (line ∷ lines) (length lines) d) span) ≡ put_last (line ∷ lines) span
put_last-at line [] span d = refl
put_last-at line (next ∷ lines) span d = ap (λ r. line ∷ r) (put_last-at next lines span d)

-- a write at the last place is a put into the last line
pub put_last-set : (lines : List LineView) (n : ℕ) (line new : LineView) (span : SpanView) →
    n ≡ length lines → n ≢ 0 → line ≡ get_or lines (n - 1) line → new ≡ with_span line span → set lines (n - 1) new ≡ put_last lines span
put_last-set [] n line new span e ne el em = absurd (ne e)
put_last-set (first ∷ lines) n line new span e ne el em =
    let at : n - 1 ≡ length lines = omega arith in
    rw (em, at) (step (rw at at el))
  where
    step : line ≡ get_or (first ∷ lines) (length lines) line →
        set (first ∷ lines) (length lines) (with_span line span) ≡ put_last (first ∷ lines) span
    step h = ap (λ r. set (first ∷ lines) (length lines) (with_span r span)) h ∙ put_last-at first lines span line

-- a span that has a text is not passed over
pub with_span-push : (line new : LineView) (span : SpanView) → 0 < length span.text →
    new ≡ record line { spans = if length span.text == 0 then line.spans else line.spans ++ span ∷ [] } → new ≡ with_span line span
with_span-push line new span some e = by_test (length span.text == 0) refl
  where
    by_test : (b : Bool) → (length span.text == 0) ≡ b → new ≡ with_span line span
    by_test true t = let none : length span.text ≡ 0 = eqb-true _ _ t in absurd (omega arith)
    by_test false t = e ∙ rw t refl
