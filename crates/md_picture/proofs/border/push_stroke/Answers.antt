use Rattle.std.proofs.Common.{◌≡◌, ◌+◌, ◌++◌, ◌∙◌, ap, sym, List, ℕ, append_assoc, replicate, string_bytes, [], ◌∷◌, arith}
use Rattle.term_text.specs.Lists.{joined}
use Rattle.std.specs.Char.{encode_utf8}
use Rattle.md_picture.proofs.Strokes.{repeated_more, repeated_two}
use Rattle.md_picture.proofs.border.push_stroke.Goals as goal

pub loop-i-preserved : goal.loop-i-preserved
unfolding encode_utf8
loop-i-preserved c = c.in_ok-push_str.ensures.bytes ∙ (ap (λ (t : List ℕ). t ++ (226 ∷ 148 ∷ 128 ∷ [])) c.loop-i.invariant ∙ (append_assoc (string_bytes c.args.text.now) _ _ ∙ ap (λ (t : List ℕ). string_bytes c.args.text.now ++ t) (sym (repeated_more c.loop-i.i (226 ∷ 148 ∷ 128 ∷ [])))))

pub returns : goal.returns
unfolding encode_utf8
returns c =
    let end : c.loop-i.i ≡ c.args.column.width = omega (arith, c.loop-i-test.false, c.loop-i.auto.i-end) in
    c.in_ok-push_str-2.ensures.bytes
    ∙ ap (λ (t : List ℕ). t ++ (226 ∷ 148 ∷ 128 ∷ 226 ∷ 148 ∷ 128 ∷ [])) c.loop-i.invariant
    ∙ append_assoc (string_bytes c.args.text.now) _ _
    ∙ ap (λ (t : List ℕ). string_bytes c.args.text.now ++ t) (sym (repeated_two c.loop-i.i (226 ∷ 148 ∷ 128 ∷ [])) ∙ ap (λ n. joined (replicate (n + 2) (226 ∷ 148 ∷ 128 ∷ []))) end)
