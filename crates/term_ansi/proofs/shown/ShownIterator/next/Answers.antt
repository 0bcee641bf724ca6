use Rattle.std.proofs.Common.{◌≡◌, ◌+◌, ◌-◌, ◌^◌, length, ap, ◌∙◌, rules, arith}
use Rattle.std.specs.Prelude.{min, max}
use Rattle.term_text.specs.Graph.{width_of}
use Rattle.term_core.proofs.VisitedLemmas.{visited-end, visited-step}
use Rattle.term_ansi.specs.ShownIter.{shown_left}
use Rattle.term_ansi.proofs.shown.ShownIterator.next.Goals as goal

pub returns-then-self-cells-clause-steps : goal.returns-then-self-cells-clause-steps
unfolding shown_left
returns-then-self-cells-clause-steps c =
    let s = c.args.self.now in
    let none = visited-end s.cells.now s.place c.if-self-cells.true in (none, none)

pub returns-clause-steps : goal.returns-clause-steps
unfolding shown_left
returns-clause-steps c =
    let s = c.args.self.now in
    let cell = c.index-cells-self.result in
    let next : c.saturating_add-self.result ≡ min (s.place + max (width_of cell.symbol) 1) (2 ^ 64 - 1) =
    c.saturating_add-self.ensures
    ∙ ap (λ n. min (s.place + n) (2 ^ 64 - 1)) (c.max-columns.ensures ∙ ap (λ n. max n 1) (c.columns.ensures ∙ ap width_of c.symbol.ensures)) in
    visited-step s.cells.now s.place c.saturating_add-self.result cell c.if-self-cells.false (omega arith) c.index-cells-self.is next

pub returns-clause-goes : goal.returns-clause-goes
returns-clause-goes c =
    let shorter = ap length (returns-clause-steps c) in
    search (rules, arith)
