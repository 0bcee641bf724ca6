use Rattle.std.proofs.Common.{◌≡◌, ◌-◌, suc, length, take, ap, sym, ◌∙◌, arith}
use Rattle.std.specs.List.{sum}
use Rattle.term_text.specs.RowIndex.{counts_after}
use Rattle.term_text.proofs.RowIndexLemmas.{length-counts, sum-counts-first}
use Rattle.term_text.proofs.row_index.RowIndex.rows_before.Goals as goal

pub index-requires : goal.index-requires
index-requires c =
    let kept : length c.self.inside.ends.items ≡ length c.args.self.now =
    sym (length-counts 0 c.self.inside.ends.items) ∙ ap length c.self.view_is in
    omega (arith, kept, c.requires)

pub returns : goal.returns
returns c =
    let ends = c.self.inside.ends.items in
    let kept : length ends ≡ length c.args.self.now = sym (length-counts 0 ends) ∙ ap length c.self.view_is in
    let next : suc (c.args.line - 1) ≡ c.args.line = omega (arith, c.if-line-eq0.false) in
    c.index.ensures ∙ sym (sum-counts-first ends (c.args.line - 1) _ c.self.invariant (omega (arith, kept, c.requires)))
    ∙ ap (λ n. sum (take n (counts_after 0 ends))) next ∙ ap (λ t. sum (take c.args.line t)) c.self.view_is
