use Rattle.std.proofs.Common.{◌≡◌, length, take_all, ap, ◌∙◌, arith}
use Rattle.std.specs.List.{sum}
use Rattle.term_text.proofs.RowIndexLemmas.{length-counts}
use Rattle.term_text.proofs.row_index.RowIndex.total.Goals as goal

pub rows_before-requires : goal.rows_before-requires
rows_before-requires c =
    let kept : c.len.result ≡ length c.args.self.now =
    omega (arith, c.len.ensures, length-counts 0 c.self.inside.ends.items, ap length c.self.view_is) in omega (arith, kept)

pub returns : goal.returns
returns c =
    let kept : c.len.result ≡ length c.args.self.now =
    omega (arith, c.len.ensures, length-counts 0 c.self.inside.ends.items, ap length c.self.view_is) in
    c.rows_before.ensures ∙ ap sum (take_all c.len.result c.args.self.now (omega (arith, kept)))
