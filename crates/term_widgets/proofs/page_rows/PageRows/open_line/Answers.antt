use Rattle.std.proofs.Common.{◌++◌, ◌+◌, drop, ap, sym, ◌∙◌}
use Rattle.term_widgets.specs.Page.{rows_of}
use Rattle.term_widgets.specs.PageRows.{later_rows}
use Rattle.term_widgets.proofs.LineLemmas.{AllFit-next, rows_of-next}
use Rattle.term_widgets.proofs.page_rows.PageRows.open_line.Goals as goal

pub new-cutter-requires : goal.new-cutter-requires
new-cutter-requires c =
    let s = c.args.self.now in
    (AllFit-next s.width s.lines.now s.place c.index-lines-self.result c.requires c.index-lines-self.is s.all_fit).0

pub invariant_of-self : goal.invariant_of-self
invariant_of-self c =
    let s = c.args.self.now in
    record { all_fit = (AllFit-next s.width s.lines.now s.place c.index-lines-self.result c.requires c.index-lines-self.is s.all_fit).1 }

pub returns-clause-rows : goal.returns-clause-rows
unfolding later_rows
returns-clause-rows c =
    let s = c.args.self.now in
    ap (λ t. t ++ rows_of s.width (drop (s.place + 1) s.lines.now)) c.new-cutter.ensures
    ∙ sym (rows_of-next s.width s.lines.now s.place c.index-lines-self.result c.requires c.index-lines-self.is)
