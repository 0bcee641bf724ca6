use Rattle.std.proofs.Common.{◌≡◌, ℕ, ap, subst, sym, ◌∙◌}
use Rattle.std.specs.List.{prefix_len}
use Rattle.std.specs.Str.{IsCharBoundary}
use Rattle.md_lines.specs.Blanks.{is_blank}
use Rattle.md_rules.proofs.TextLemmas.{boundary-front, blank-ascii}
use Rattle.md_rules.proofs.texts.without_start_blanks.Goals as goal

pub range_from-requires : goal.range_from-requires
range_from-requires c =
    let count : c.blanks.result ≡ prefix_len is_blank c.args.text.now = c.blanks.ensures ∙ ap (prefix_len is_blank) c.as_bytes.ensures.value in
    λ _. subst (λ (n : ℕ). IsCharBoundary c.args.text.now n) (sym count) (boundary-front is_blank blank-ascii c.args.text.now c.utf8.text)
