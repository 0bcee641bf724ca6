use Rattle.std.proofs.Common.{◌≡◌, ◌<◌, ◌-◌, ℕ, true, arith, ap, subst, sym, ◌∙◌, length}
use Rattle.std.specs.List.{suffix_len}
use Rattle.std.specs.Str.{IsCharBoundary}
use Rattle.std.proofs.lemmas.Bool.Decides.{nat_tests}
use Rattle.md_rules.specs.Headings.{is_hash}
use Rattle.md_rules.proofs.TextLemmas.{boundary-suffix}
use Rattle.md_rules.proofs.heading.without_hashes.Goals as goal

ascii : (b : ℕ) → is_hash b ≡ true → b < 128
ascii b e = grind (arith, nat_tests)

pub range-requires-clause-end_boundary : goal.range-requires-clause-end_boundary
range-requires-clause-end_boundary c =
    let count : c.closing_hashes.result ≡ suffix_len is_hash c.args.text.now = c.closing_hashes.ensures.value ∙ ap (suffix_len is_hash) c.as_bytes.ensures.value in
    subst (λ (n : ℕ). IsCharBoundary c.args.text.now (length c.args.text.now - n)) (sym count) (boundary-suffix is_hash ascii c.args.text.now)
