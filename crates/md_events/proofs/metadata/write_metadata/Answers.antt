use Rattle.std.proofs.Common.{◌++◌, ◌∷◌, [], ◌+◌, ◌-◌, ◌≡◌, List, ℕ, ap, sym, ◌∙◌, arith, drop, take}
use Rattle.md_tree.specs.declared.event.Event.TheVariants.{End}
use Rattle.md_tree.specs.declared.event.TagEnd.TheVariants as end
use Rattle.md_tree.specs.Tree.{events}
use Rattle.md_lines.specs.Lines.{LineText}
use Rattle.md_events.specs.Metadata.{metadata_texts}
use Rattle.md_events.proofs.MetadataSteps.{metadata-written}
use Rattle.md_events.proofs.metadata.write_metadata.Goals as goal

pub returns-clause-written : goal.returns-clause-written
returns-clause-written c =
    let lines : List LineText = c.args.lines.now in
    let n : ℕ = c.in-Some.count in
    let inside : List LineText = take (1 + n - 1) (drop 1 lines) in
    let count : 1 + n - 1 ≡ n = omega arith in
    metadata-written lines inside n _ _ (sym c.metadata_in.ensures.value ∙ c.in-Some.is) (ap (λ k. take k (drop 1 lines)) count)
    (c.in_ok-push-2.ensures.items
    ∙ ap (λ x. x ++ End end.MetadataBlock ∷ [])
    (c.in_ok-write_metadata_texts.ensures ∙ ap (λ x. x ++ events (metadata_texts inside)) c.in_ok-push.ensures.items))
