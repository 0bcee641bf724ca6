use Rattle.std.proofs.Common.{◌≡◌, ◌++◌, [], drop, length, ap, ap₂, sym, ◌∙◌, rules, arith}
use Rattle.std.proofs.lemmas.List.{drop_all}
use Rattle.term_text.specs.Graph.{spans_graphs}
use Rattle.term_text.specs.LineIter.{line_left}
use Rattle.term_text.proofs.LineLemmas.{append_step}
use Rattle.term_text.proofs.line_graphs.LineGraphemesIterator.next.Goals as goal

pub returns-in-Some-clause-steps : goal.returns-in-Some-clause-steps
unfolding line_left
returns-in-Some-clause-steps c = append_step _ _ _ _ _ c.spans.invariant c.in-Some.ensures.steps

pub returns-in-Some-clause-goes : goal.returns-in-Some-clause-goes
unfolding line_left
returns-in-Some-clause-goes c =
    let shorter = ap length (append_step _ _ _ _ _ c.spans.invariant c.in-Some.ensures.steps) in
    search (rules, arith)

pub returns-then-self-clause-steps : goal.returns-then-self-clause-steps
unfolding line_left spans_graphs
returns-then-self-clause-steps c =
    let s = c.spans.self in
    let none : drop s.place s.spans.now ≡ [] = drop_all s.place s.spans.now c.if-self.true in (
      sym c.spans.invariant ∙ ap₂ (λ a b. a ++ spans_graphs s.under b) c.in_default.ensures.steps.0 none,
      ap₂ (λ a b. a ++ spans_graphs s.under b) c.in_default.ensures.steps.1 none,
    )

pub spans-preserved : goal.spans-preserved
unfolding line_left
spans-preserved c =
    let s = c.spans.self in
    c.enter.ensures.left ∙ ap (λ gs. gs ++ spans_graphs s.under (drop s.place s.spans.now)) (c.in_default.ensures.steps.1 ∙ sym c.in_default.ensures.steps.0) ∙ c.spans.invariant
