use Rattle.std.proofs.Common.{ap, ◌∙◌, List, ℕ, length, drop, ◌++◌, ◌∷◌, []}
use Rattle.std.proofs.lemmas.List.{length_push}
use Rattle.std.proofs.lemmas.Iterator.Splits.{YieldsList-from_lines}
use Rattle.std.proofs.lemmas.Iterator.Consumers.{YieldsList-turn, YieldsList-end}
use Rattle.std.specs.Str.Lines.{lines}
use Rattle.md_text.specs.Marks.{styled_span}
use Rattle.md_text.specs.Spans.{piece}
use Rattle.md_text.specs.State.{State, kept}
use Rattle.md_text.proofs.FlatLines.{rest_flat, rest_flat-line, rest_flat-end}
use Rattle.md_text.proofs.machine.Machine.flat_lines.Goals as goal

pub loop-line-preserved : goal.loop-line-preserved
loop-line-preserved c =
    let all = lines c.args.content.now in
    let style = c.args.style in
    let t = YieldsList-turn (YieldsList-from_lines c.args.content.now cc) c.loop-line.yielded _ c.loop-line.yielded_by _ _ c.in-Some.line c.in-Some.is c.next.ensures.steps in
    ap (λ (s : State). rest_flat style s (drop (length (c.loop-line.yielded ++ c.in-Some.line ∷ [])) all)) (c.in_ok-push_piece.ensures
    ∙ ap (λ (line : List ℕ). kept c.loop-line.self.environment.within c.loop-line.self (piece (styled_span line style))) (c.owned.ensures ∙ c.in_ok-owned.ensures.ok))
    ∙ rest_flat-line style c.loop-line.self all (length c.loop-line.yielded) _ c.in-Some.line.now t (length_push _ _)
    ∙ c.loop-line.invariant

pub returns : goal.returns
returns c =
    let all = lines c.args.content.now in
    let t = YieldsList-end (YieldsList-from_lines c.args.content.now cc) c.loop-line.yielded _ c.loop-line.yielded_by _ _ c.in-None.is c.next.ensures.steps in
    rest_flat-end c.args.style c.loop-line.self all (length c.loop-line.yielded) t.1 ∙ c.loop-line.invariant
