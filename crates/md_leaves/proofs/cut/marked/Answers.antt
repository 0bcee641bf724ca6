use Rattle.std.proofs.Common.{◌≡◌, ◌∙◌, ℕ, List, Option, ap, sym, get_or, drop}
use Rattle.std.specs.Option.{option_or}
use Rattle.md_leaves.specs.declared.cut.Cut.{Cut}
use Rattle.md_leaves.specs.Leaves.{line_end, opener}
use Rattle.md_leaves.specs.Runs.{run}
use Rattle.md_leaves.proofs.TextLemmas.{marked-rest}
use Rattle.md_leaves.proofs.cut.marked.Goals as goal

pub returns-clause-value : goal.returns-clause-value
returns-clause-value c =
    let source : List ℕ = c.args.source.now in
    let at : ℕ = c.args.at in
    let rest = c.rest_of-rest.ensures ∙ ap (drop at) c.as_bytes-bytes.ensures.value in
    let first : get_or source at 0 ≡ get_or c.as_bytes-bytes.result.now at 0 = ap (λ x. get_or x at 0) (sym c.as_bytes-bytes.ensures.value) in
    let others : Option Cut = option_or (opener (drop at source)) (run source at (drop at source)) in
    let found : c.or-2.result ≡ others =
    c.or-2.ensures ∙ (ap (λ o. option_or o c.run.result) (c.opener-2.ensures.value ∙ ap opener rest) ∙ ap (option_or (opener (drop at source))) c.run.ensures.value) in
    c.or-3.ensures
    ∙ (ap (λ o. option_or o c.line_end.result) found
    ∙ (ap (option_or others) (c.line_end.ensures.value ∙ ap line_end rest)
    ∙ sym (marked-rest source at _ c.requires.within first c.if-first-eq92.false c.if-first-eq96.false c.if-first-eq93.false c.if-first-eq36.false c.if-first-eq60.false c.if-first-eq91.false)))
