use Rattle.std.proofs.Common.{◌≡◌, ◌<◌, ◌+◌, ℕ, true, subst, sym, arith, length}
use Rattle.std.specs.List.{position_or_len}
use Rattle.std.specs.Str.{IsCharBoundary}
use Rattle.std.proofs.lemmas.Bool.Decides.{nat_tests}
use Rattle.md_rules.specs.Attributes.{is_equals}
use Rattle.md_rules.proofs.TextLemmas.{boundary-first, boundary-behind_first}
use Rattle.md_rules.proofs.attributes.cut_at_equals.Goals as goal

ascii : (b : ℕ) → is_equals b ≡ true → b < 128
ascii b e = grind (arith, nat_tests)

pub range-requires-clause-end_boundary : goal.range-requires-clause-end_boundary
range-requires-clause-end_boundary c =
    subst (λ (n : ℕ). IsCharBoundary c.args.word.now n) (sym c.requires.place) (boundary-first is_equals ascii c.args.word.now)

pub range_from-requires : goal.range_from-requires
range_from-requires c =
    let within : position_or_len is_equals c.args.word.now < length c.args.word.now = omega arith in
    λ _. subst (λ (n : ℕ). IsCharBoundary c.args.word.now (n + 1)) (sym c.requires.place) (boundary-behind_first is_equals ascii c.args.word.now c.utf8.word within)
