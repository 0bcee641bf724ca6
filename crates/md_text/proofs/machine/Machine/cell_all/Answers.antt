use Rattle.std.proofs.Common.{ap, ◌∙◌, length, drop, rules, ◌++◌, ◌∷◌, []}
use Rattle.std.proofs.lemmas.List.{length_push}
use Rattle.std.proofs.lemmas.Iterator.Adapters.{YieldsList-from_vec}
use Rattle.std.proofs.lemmas.Iterator.Consumers.{YieldsList-turn}
use Rattle.md_text.specs.declared.environment.Within.TheVariants.{Cell}
use Rattle.md_text.specs.State.{State, kept}
use Rattle.md_text.proofs.FlatLines.{kept-one}
use Rattle.md_text.proofs.machine.Machine.cell_all.Goals as goal

pub loop-span-preserved : goal.loop-span-preserved
loop-span-preserved c =
    let all = c.args.spans.items in
    let spans = YieldsList-from_vec {s = c.into_iter-span-iterator.result} all (search rules) (search rules) in
    let t = YieldsList-turn spans c.loop-span.yielded _ c.loop-span.yielded_by _ c.next.new.self c.in-Some.span c.in-Some.is c.next.ensures.steps in
    ap (λ (s : State). kept Cell s (drop (length (c.loop-span.yielded ++ c.in-Some.span ∷ [])) all)) c.in_ok-cell_span.ensures
    ∙ kept-one c.loop-span.self all (length c.loop-span.yielded) _ c.in-Some.span t (length_push _ _)
    ∙ c.loop-span.invariant
