use Rattle.std.proofs.Common.{ap, ◌++◌, drop, sym, subst, ◌∙◌}
use Rattle.term_text.specs.Graph.{spans_graphs}
use Rattle.term_text.specs.LineIter.{line_left}
use Rattle.term_text.specs.Solid.{AreSolid}
use Rattle.term_text.proofs.SolidLemmas.{AreSolid-append}
use Rattle.term_text.proofs.line_graphs.LineGraphemes.pass_solid.Goals as goal

pub returns-clause-solid : goal.returns-clause-solid
unfolding line_left
returns-clause-solid c =
    let s = c.args.self.now in
    subst (AreSolid c.pass_solid-count.result (line_left s)) (sym c.refill.ensures) (AreSolid-append _ _ _ _ c.pass_solid-count.ensures.solid)

pub returns-clause-none : goal.returns-clause-none
unfolding line_left
returns-clause-none c none =
    let s = c.args.self.now in
    c.refill.ensures ∙ ap (λ gs. gs ++ spans_graphs s.under (drop s.place s.spans.now)) (c.pass_solid-count.ensures.none none)
