use Rattle.std.proofs.Common.{ap, ◌∙◌, List, ℕ, length, drop, false, ◌++◌, ◌∷◌, []}
use Rattle.std.proofs.lemmas.List.{length_push}
use Rattle.std.proofs.lemmas.Iterator.Splits.{YieldsList-from_lines}
use Rattle.std.proofs.lemmas.Iterator.Consumers.{YieldsList-turn, YieldsList-end}
use Rattle.std.specs.Str.Lines.{lines}
use Rattle.md_text.specs.Inlines.{text_line}
use Rattle.md_text.specs.State.{State, laid}
use Rattle.md_text.proofs.TextLines.{rest_laid, rest_laid-line, rest_laid-end}
use Rattle.md_text.proofs.machine.Machine.copied_lines.Goals as goal

pub loop-line-preserved : goal.loop-line-preserved
loop-line-preserved c =
    let all = lines c.args.content.now in
    let t = YieldsList-turn (YieldsList-from_lines c.args.content.now cc) c.loop-line.yielded _ c.loop-line.yielded_by _ _ c.in-Some.line c.in-Some.is c.next.ensures.steps in
    ap (λ (s : State). rest_laid s false (drop (length (c.loop-line.yielded ++ c.in-Some.line ∷ [])) all)) (c.in_ok-text_line.ensures
    ∙ ap (λ (line : List ℕ). laid c.loop-line.self (text_line c.loop-line.is_first c.loop-line.self.environment c.loop-line.self.spacing line)) (c.owned.ensures ∙ c.in_ok-owned.ensures.ok))
    ∙ rest_laid-line c.loop-line.self c.loop-line.is_first all (length c.loop-line.yielded) _ c.in-Some.line.now t (length_push _ _)
    ∙ c.loop-line.invariant

pub returns : goal.returns
returns c =
    let all = lines c.args.content.now in
    let t = YieldsList-end (YieldsList-from_lines c.args.content.now cc) c.loop-line.yielded _ c.loop-line.yielded_by _ _ c.in-None.is c.next.ensures.steps in
    rest_laid-end c.loop-line.self c.loop-line.is_first all (length c.loop-line.yielded) t.1 ∙ c.loop-line.invariant
