use Rattle.std.proofs.Common.{◌≡◌, ◌++◌, ◌+◌, drop, ap, sym, ◌∙◌}
use Rattle.term_text.specs.Style.{patch}
use Rattle.term_text.specs.Graph.{spans_graphs, span_graphs, visible, pieces_of}
use Rattle.term_text.specs.Iter.{graphs_left}
use Rattle.term_text.specs.LineIter.{line_left}
use Rattle.term_text.proofs.LineLemmas.{spans_graphs-drop}
use Rattle.term_text.proofs.line_graphs.LineGraphemes.enter.Goals as goal

pub returns-clause-left : goal.returns-clause-left
unfolding line_left
returns-clause-left c =
    let s = c.args.self.now in
    let span = c.index-spans-self.result in
    let made : graphs_left c.new-self.result ≡ span_graphs s.under span =
    c.new-self.ensures ∙ ap (λ y. visible y (pieces_of span)) (c.patch.ensures ∙ ap (patch s.under) c.style.ensures) in
    let next = spans_graphs-drop s.under s.spans.now s.place span c.requires.some c.index-spans-self.is in
    ap (λ t. t ++ spans_graphs s.under (drop (s.place + 1) s.spans.now)) made
    ∙ sym (ap (λ t. t ++ spans_graphs s.under (drop s.place s.spans.now)) c.requires.passed ∙ next)
