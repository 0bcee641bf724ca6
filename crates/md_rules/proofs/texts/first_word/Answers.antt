use Rattle.std.proofs.Common.{◌≡◌, ◌∷◌, ℕ, ap, subst, sym, ◌∙◌, take, drop, List, ◌-◌, arith}
use Rattle.std.specs.List.{position_or_len}
use Rattle.std.specs.Str.{IsCharBoundary}
use Rattle.md_lines.specs.Blanks.{is_blank}
use Rattle.md_rules.specs.Texts.{words}
use Rattle.md_rules.proofs.TextLemmas.{boundary-first, blank-ascii, words-first, first_word-some}
use Rattle.md_rules.proofs.texts.first_word.Goals as goal

pub range-requires-clause-end_boundary : goal.range-requires-clause-end_boundary
range-requires-clause-end_boundary c =
    let count : c.solids-end.result ≡ position_or_len is_blank c.args.text.now = c.solids-end.ensures ∙ ap (position_or_len is_blank) c.as_bytes.ensures.value in
    subst (λ (n : ℕ). IsCharBoundary c.args.text.now n) (sym count) (boundary-first is_blank blank-ascii c.args.text.now)

pub range_from-requires : goal.range_from-requires
range_from-requires c =
    let count : c.solids-end.result ≡ position_or_len is_blank c.args.text.now = c.solids-end.ensures ∙ ap (position_or_len is_blank) c.as_bytes.ensures.value in
    λ _. subst (λ (n : ℕ). IsCharBoundary c.args.text.now n) (sym count) (boundary-first is_blank blank-ascii c.args.text.now)

pub returns-clause-words : goal.returns-clause-words
returns-clause-words c =
    let text : List ℕ = c.args.text.now in
    let count : c.solids-end.result ≡ position_or_len is_blank text = c.solids-end.ensures ∙ ap (position_or_len is_blank) c.as_bytes.ensures.value in
    let cut : c.solids-end.result - 0 ≡ position_or_len is_blank text = omega (arith, count) in
    let word : c.range.result.now ≡ take (position_or_len is_blank text) text = c.range.ensures.value ∙ ap (λ n. take n text) cut in
    let rest : c.range_from.result.now ≡ drop (position_or_len is_blank text) text = c.range_from.ensures.value ∙ ap (λ n. drop n text) count in
    words-first text c.requires ∙ (ap (λ w. w ∷ words (drop (position_or_len is_blank text) text)) (sym word) ∙ ap (λ r. c.range.result.now ∷ words r) (sym rest))

pub returns-clause-shorter : goal.returns-clause-shorter
returns-clause-shorter c =
    let text : List ℕ = c.args.text.now in
    let count : c.solids-end.result ≡ position_or_len is_blank text = c.solids-end.ensures ∙ ap (position_or_len is_blank) c.as_bytes.ensures.value in
    omega (arith, count, first_word-some text c.requires, c.range_from.ensures.len)
