use Rattle.std.proofs.Common.{rules, ap, sym, ◌∙◌, get_or, reverse}
use Rattle.std.specs.Char.{IsScalar}
use Rattle.std.proofs.lemmas.List.{nil_from_length}
use Rattle.std.proofs.lemmas.Str.{chars-nil}
use Rattle.md_leaves.specs.Runs.{char_before}
use Rattle.md_leaves.proofs.RunLemmas.{char_before-last}
use Rattle.md_leaves.proofs.runs.char_before.Goals as goal

pub returns-in-Some : goal.returns-in-Some
returns-in-Some c =
    let scalar : IsScalar c.in-Some.c = search rules in
    char_before-last c.args.text.now c.next_back.new.self.rest.now c.in-Some.c c.utf8.text scalar (sym c.chars.ensures.rest ∙ c.in-Some.ensures.steps)

pub returns-in-None : goal.returns-in-None
returns-in-None c =
    ap (λ x. get_or (reverse x) 0 10) (sym chars-nil) ∙ ap char_before (sym (sym c.chars.ensures.rest ∙ nil_from_length c.chars.result.rest.now c.in-None.ensures.steps.0))
