-- Plain spans.
use Rattle.std.proofs.Common.{◌≡◌, ℕ, Bool, true, false, cond, ◌==◌, List, [], ◌∷◌, ◌++◌, length, refl, ap, ◌∙◌}
use Rattle.term_text.specs.Style.{no_style}
use Rattle.term_text.specs.Text.{SpanView, raw_spans}

abbrev pub raw_span : List ℕ → SpanView
raw_span text = record { text = text; style = no_style; is_glyph = false }

pub raw_spans-push : (texts : List (List ℕ)) (text : List ℕ)
    → raw_spans (texts ++ text ∷ []) ≡ cond (length text == 0) (raw_spans texts) (raw_spans texts ++ raw_span text ∷ [])
unfolding raw_spans
raw_spans-push [] text = refl
raw_spans-push (t ∷ texts) text = ap (λ l. cond (length t == 0) l (raw_span t ∷ l)) (raw_spans-push texts text) ∙ go (length t == 0) (length text == 0)
  where
    go : (a b : Bool) → (let rest = raw_spans texts in
        cond a (cond b rest (rest ++ raw_span text ∷ [])) (raw_span t ∷ cond b rest (rest ++ raw_span text ∷ []))
        ≡ cond b (cond a rest (raw_span t ∷ rest)) (cond a rest (raw_span t ∷ rest) ++ raw_span text ∷ []))
    go true true = refl
    go true false = refl
    go false true = refl
    go false false = refl
