use Rattle.std.proofs.Common.{◌<◌, ap, length, take, rules, arith}
use Rattle.term_text.specs.LineIter.{line_left}
use Rattle.term_text.specs.Rows.{row_left}
use Rattle.term_text.proofs.CutLemmas.{take_step, take_none}
use Rattle.term_text.proofs.cutter.RowGraphemesIterator.next.Goals as goal

pub returns-then-self-eq0-clause-steps : goal.returns-then-self-eq0-clause-steps
unfolding row_left
returns-then-self-eq0-clause-steps c =
    let none = ap (λ n. take n (line_left c.args.self.now.graphs)) c.if-self-eq0.true in (none, none)

pub returns-in-Some-clause-steps : goal.returns-in-Some-clause-steps
unfolding row_left
returns-in-Some-clause-steps c =
    let some : 0 < c.args.self.now.len = omega arith in
    take_step _ _ _ _ some c.in-Some.ensures.steps

pub returns-in-Some-clause-goes : goal.returns-in-Some-clause-goes
unfolding row_left
returns-in-Some-clause-goes c =
    let some : 0 < c.args.self.now.len = omega arith in
    let shorter = ap length (take_step _ _ _ _ some c.in-Some.ensures.steps) in
    search (rules, arith)

pub returns-in-None-clause-steps : goal.returns-in-None-clause-steps
unfolding row_left
returns-in-None-clause-steps c = (take_none _ _ c.in-None.ensures.steps.0, take_none _ _ c.in-None.ensures.steps.1)
