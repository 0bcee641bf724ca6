use Rattle.std.proofs.Common.{◌≡◌, ◌<◌, List, ℕ, ap, subst, sym, ◌∙◌, not, true, length, arith}
use Rattle.std.proofs.lemmas.Bool.Decides.{nat_tests}
use Rattle.md_rules.specs.Texts.{ends_word, words}
use Rattle.md_rules.proofs.TextLemmas.{words-skip, without_start_blanks-solid, words-none}
use Rattle.md_rules.proofs.texts.next_word.Goals as goal

pub returns-then-is_empty-clause-words : goal.returns-then-is_empty-clause-words
returns-then-is_empty-clause-words c =
    let none : length c.without_start_blanks-rest.result.now ≡ 0 = grind (arith, nat_tests, c.is_empty.ensures, c.if-is_empty.true) in
    words-skip c.args.text.now ∙ (ap words (sym c.without_start_blanks-rest.ensures) ∙ words-none c.without_start_blanks-rest.result.now none)

pub first_word-requires : goal.first_word-requires
first_word-requires c =
    let some : 0 < length c.without_start_blanks-rest.result.now = grind (arith, nat_tests, c.is_empty.ensures, c.if-is_empty.false) in
    let solid = without_start_blanks-solid c.args.text.now (subst (λ (x : List ℕ). 0 < length x) c.without_start_blanks-rest.ensures some) in
    subst (λ (x : List ℕ). not (ends_word x) ≡ true) (sym c.without_start_blanks-rest.ensures) solid

pub returns-clause-words : goal.returns-clause-words
returns-clause-words c = words-skip c.args.text.now ∙ (ap words (sym c.without_start_blanks-rest.ensures) ∙ c.first_word.ensures.words)
