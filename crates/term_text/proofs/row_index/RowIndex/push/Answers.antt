use Rattle.std.proofs.Common.{◌≡◌, ◌+◌, ◌-◌, ◌++◌, ◌∷◌, [], ap, ap₂, sym, ◌∙◌, arith}
use Rattle.std.specs.List.{sum}
use Rattle.term_text.specs.RowIndex.{counts_after, rises}
use Rattle.term_text.proofs.RowIndexLemmas.{counts_after-push, rises-push}
use Rattle.term_text.proofs.row_index.RowIndex.push.Goals as goal

pub invariant_of-self-2 : goal.invariant_of-self-2
invariant_of-self-2 c =
    let ends = c.self.inside.ends.items in
    let all : sum (counts_after 0 ends) ≡ c.total.result = ap sum c.self.view_is ∙ sym c.total.ensures in
    ap (rises 0) c.in_ok-push.ensures.items ∙ rises-push 0 ends (c.total.result + c.args.rows) c.self.invariant (omega (arith, all))

pub returns-clause-ok : goal.returns-clause-ok
returns-clause-ok c =
    let ends = c.self.inside.ends.items in
    let all : sum (counts_after 0 ends) ≡ c.total.result = ap sum c.self.view_is ∙ sym c.total.ensures in
    let one : (c.total.result + c.args.rows) - (0 + sum (counts_after 0 ends)) ≡ c.args.rows = omega (arith, all) in
    ap (counts_after 0) c.in_ok-push.ensures.items ∙ counts_after-push 0 ends (c.total.result + c.args.rows) c.self.invariant
    ∙ ap₂ (λ t n. t ++ n ∷ []) c.self.view_is one
