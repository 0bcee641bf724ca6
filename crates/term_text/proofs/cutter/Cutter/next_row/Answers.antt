use Rattle.std.proofs.Common.{◌≡◌, ◌==◌, ◌∷◌, [], nat_le, cond, ap, ap₂, sym, ◌∙◌, subst, take, drop, length, take_all, arith}
use Rattle.term_text.specs.Graph.{columns}
use Rattle.term_text.specs.LineIter.{line_left}
use Rattle.term_text.specs.Rows.{rows_left, row_graphs}
use Rattle.term_text.specs.Wrap.{wrap, cut_of, skip_blanks, rest_of, NoneWider}
use Rattle.term_text.proofs.WrapLemmas.{wrap-fits, wrap-cut, NoneWider-after, Narrow-from}
use Rattle.term_text.proofs.CutLemmas.{cut_last, cut_more, unless_empty-test, le_of_test, lt_of_test}
use Rattle.term_text.proofs.cutter.Cutter.next_row.Goals as goal

pub returns-then-self-clause-row : goal.returns-then-self-clause-row
unfolding rows_left
returns-then-self-clause-row g c =
    let s = c.args.self.now in
    let none = ap (λ b. cond b [] (wrap s.width (line_left s.graphs))) c.if-self.true in (none, none)

pub returns-then-is_last-clause-row : goal.returns-then-is_last-clause-row
unfolding rows_left row_graphs
returns-then-is_last-clause-row g c =
    let s = c.args.self.now in
    let gs = line_left s.graphs in
    let fits = cut_last (nat_le (columns gs) s.width) c.cut_at-len.result (length gs) (cut_of s.width gs) c.cut_at-len.ensures c.if-is_last.true in
    let whole : take c.cut_at-len.result.0 (line_left c.copy-graphs.result) ≡ gs =
    ap₂ take fits.1 c.copy-graphs.ensures ∙ take_all (length gs) gs (omega arith) in
    ap (λ b. cond b [] (wrap s.width gs)) c.if-self.false
    ∙ wrap-fits s.width gs (le_of_test _ _ fits.0)
    ∙ ap (λ row. row ∷ []) (sym whole)

pub invariant_of-self-2 : goal.invariant_of-self-2
invariant_of-self-2 g c =
    let s = c.args.self.now in
    let left : line_left c.pass_blanks.new.self ≡ skip_blanks (drop c.cut_at-len.result.0 (line_left s.graphs)) =
    c.pass_blanks.ensures ∙ ap skip_blanks c.pass.ensures in
    record { none_wider = subst (NoneWider s.width) (sym left) (NoneWider-after s.width c.cut_at-len.result.0 (line_left s.graphs) s.none_wider) }

pub returns-clause-row : goal.returns-clause-row
unfolding rows_left row_graphs
returns-clause-row g c =
    let s = c.args.self.now in
    let gs = line_left s.graphs in
    let more = cut_more (nat_le (columns gs) s.width) c.cut_at-len.result (length gs) (cut_of s.width gs) c.cut_at-len.ensures c.if-is_last.false in
    let left : line_left c.pass_blanks.new.self ≡ rest_of s.width gs =
    c.pass_blanks.ensures ∙ ap skip_blanks (c.pass.ensures ∙ ap (λ n. drop n gs) more.1) in
    let row : take c.cut_at-len.result.0 (line_left c.copy-graphs.result) ≡ take (cut_of s.width gs) gs =
    ap₂ take more.1 c.copy-graphs.ensures in
    ap (λ b. cond b [] (wrap s.width gs)) c.if-self.false
    ∙ wrap-cut s.width gs (lt_of_test _ _ more.0) (Narrow-from _ _ s.none_wider)
    ∙ ap (λ rows. take (cut_of s.width gs) gs ∷ rows) (unless_empty-test (rest_of s.width gs) (wrap s.width (rest_of s.width gs)))
    ∙ sym (ap₂ (λ r rest. r ∷ cond (length rest == 0) [] (wrap s.width rest)) row left)
    ∙ ap (λ b. take c.cut_at-len.result.0 (line_left c.copy-graphs.result) ∷ cond b [] (wrap s.width (line_left c.pass_blanks.new.self))) (sym c.is_empty-self.ensures)
