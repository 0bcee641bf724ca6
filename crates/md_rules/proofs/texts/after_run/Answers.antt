use Rattle.std.proofs.Common.{◌≡◌, ◌==◌, ◌<◌, true, ℕ, ap, subst, sym, ◌∙◌, arith}
use Rattle.std.specs.List.{prefix_len}
use Rattle.std.specs.Str.{IsCharBoundary}
use Rattle.std.proofs.lemmas.Bool.Decides.{nat_tests}
use Rattle.md_rules.proofs.TextLemmas.{boundary-front}
use Rattle.md_rules.proofs.texts.after_run.Goals as goal

ascii : (mark : ℕ) → mark < 128 → (b : ℕ) → (b == mark) ≡ true → b < 128
ascii mark small b e = grind (arith, nat_tests)

pub range_from-requires : goal.range_from-requires
range_from-requires c =
    let count : c.run_length.result ≡ prefix_len (λ b. b == c.args.mark) c.args.text.now = c.run_length.ensures.value ∙ ap (prefix_len (λ b. b == c.args.mark)) c.as_bytes.ensures.value in
    λ _. subst (λ (n : ℕ). IsCharBoundary c.args.text.now n) (sym count) (boundary-front (λ b. b == c.args.mark) (ascii c.args.mark c.requires) c.args.text.now c.utf8.text)
