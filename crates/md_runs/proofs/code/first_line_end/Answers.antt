use Rattle.std.proofs.Common.{◌≡◌, get_or, ap, sym, ◌∙◌, arith}
use Rattle.std.proofs.lemmas.Str.{IsCharBoundary-after_ascii}
use Rattle.md_runs.proofs.code.first_line_end.Goals as goal

pub returns-else-bytes-at-ne10-clause-after : goal.returns-else-bytes-at-ne10-clause-after
returns-else-bytes-at-ne10-clause-after c = λ lt.
    let here : get_or c.args.text.now c.loop-at.at 0 ≡ 10 = ap (λ x. get_or x c.loop-at.at 0) (sym c.loop-at.invariant.0) ∙ c.if-bytes-at-ne10.false in
    IsCharBoundary-after_ascii c.args.text.now c.loop-at.at c.utf8.text lt (omega arith)
