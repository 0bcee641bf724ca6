use Rattle.std.proofs.Common.{ap, ◌∙◌, List, ℕ, length, drop, ◌++◌, ◌∷◌, []}
use Rattle.std.proofs.lemmas.List.{length_push}
use Rattle.std.proofs.lemmas.Iterator.Splits.{YieldsList-from_lines}
use Rattle.std.proofs.lemmas.Iterator.Consumers.{YieldsList-turn, YieldsList-end}
use Rattle.std.specs.Str.Lines.{lines}
use Rattle.md_text.specs.Code.{answered_line, coloured_text}
use Rattle.md_text.specs.State.{State, laid}
use Rattle.md_text.proofs.Each.{each_left, each_left-one, each_left-end}
use Rattle.md_text.proofs.machine.Machine.answered_lines.Goals as goal

pub loop-line-preserved : goal.loop-line-preserved
loop-line-preserved g c =
    let one = answered_line (g.H.Highlighter.answer c.args.highlighter.now) c.args.lang.now in
    let all = lines c.args.content.now in
    let t = YieldsList-turn (YieldsList-from_lines c.args.content.now cc) c.loop-line.yielded _ c.loop-line.yielded_by _ _ c.in-Some.line c.in-Some.is c.next.ensures.steps in
    ap (λ (s : State). each_left one s (drop (length (c.loop-line.yielded ++ c.in-Some.line ∷ [])) all)) (c.in_ok-coloured_text.ensures
    ∙ ap (λ (bytes : List ℕ). laid c.loop-line.self (coloured_text c.loop-line.self.spacing bytes)) c.in_ok-answer.ensures)
    ∙ each_left-one one c.loop-line.self all (length c.loop-line.yielded) _ c.in-Some.line.now t (length_push _ _)
    ∙ c.loop-line.invariant

pub returns : goal.returns
returns g c =
    let all = lines c.args.content.now in
    let t = YieldsList-end (YieldsList-from_lines c.args.content.now cc) c.loop-line.yielded _ c.loop-line.yielded_by _ _ c.in-None.is c.next.ensures.steps in
    each_left-end (answered_line (g.H.Highlighter.answer c.args.highlighter.now) c.args.lang.now) c.loop-line.self all (length c.loop-line.yielded) t.1 ∙ c.loop-line.invariant
