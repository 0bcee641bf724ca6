use Rattle.std.proofs.Common.{length, ap, rules, arith}
use Rattle.term_core.specs.BufferRowsIter.{buffer_rows_left}
use Rattle.term_core.proofs.BufferRowsLemmas.{cell_rows-none, cell_rows-step}
use Rattle.term_core.proofs.buffer_rows.BufferRowsIterator.next.Goals as goal

pub returns-then-self-eq0-clause-steps : goal.returns-then-self-eq0-clause-steps
unfolding buffer_rows_left
returns-then-self-eq0-clause-steps c =
    let s = c.args.self.now in
    let none = cell_rows-none s.width s.left _ c.if-self-eq0.true in (none, none)

pub returns-clause-steps : goal.returns-clause-steps
unfolding buffer_rows_left
returns-clause-steps c =
    let s = c.args.self.now in
    cell_rows-step s.width s.left s.place s.cells.now c.if-self-eq0.false

pub returns-clause-goes : goal.returns-clause-goes
returns-clause-goes c =
    let shorter = ap length (returns-clause-steps c) in
    search (rules, arith)
