use Rattle.std.proofs.Common.{ap, ◌∙◌, length, drop, rules, ◌++◌, ◌∷◌, []}
use Rattle.std.proofs.lemmas.List.{length_push}
use Rattle.std.proofs.lemmas.Iterator.Adapters.{YieldsList-from_vec}
use Rattle.std.proofs.lemmas.Iterator.Consumers.{YieldsList-turn}
use Rattle.md_text.specs.Tables.{picture_line}
use Rattle.md_text.specs.State.{State}
use Rattle.md_text.proofs.Each.{each_left, each_left-one}
use Rattle.md_text.proofs.machine.Machine.picture_lines.Goals as goal

pub loop-line-preserved : goal.loop-line-preserved
loop-line-preserved c =
    let all = c.args.picture.items in
    let lines = YieldsList-from_vec {s = c.into_iter-line-iterator.result} all (search rules) (search rules) in
    let t = YieldsList-turn lines c.loop-line.yielded _ c.loop-line.yielded_by _ c.next.new.self c.in-Some.line c.in-Some.is c.next.ensures.steps in
    ap (λ (s : State). each_left (picture_line s.environment) s (drop (length (c.loop-line.yielded ++ c.in-Some.line ∷ [])) all)) c.in_ok-picture_line.ensures
    ∙ each_left-one (picture_line c.loop-line.self.environment) c.loop-line.self all (length c.loop-line.yielded) _ c.in-Some.line t (length_push _ _)
    ∙ c.loop-line.invariant
