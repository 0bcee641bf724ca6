use Rattle.std.proofs.Common.{◌++◌, ◌∷◌, [], ap, ◌∙◌, refl}
use Rattle.md_tree.specs.declared.event.Event.TheVariants.{End}
use Rattle.md_tree.specs.Tree.{events}
use Rattle.md_tree.specs.declared.event.Tag.TheVariants.{Heading}
use Rattle.md_tree.specs.declared.event.TagEnd.TheVariants as end
use Rattle.md_inline.specs.Inlines.{inlines}
use Rattle.md_events.proofs.Steps.{element-written}
use Rattle.md_events.proofs.heading.write_heading.Goals as goal

pub returns : goal.returns
returns c =
    let h = c.args.heading in
    element-written (Heading h.level h.id h.classes h.attrs) (end.Heading h.level) (inlines (h.content.body ∷ [])) _ _ refl
    (c.in_ok-push-2.ensures.items
    ∙ ap (λ x. x ++ End (end.Heading h.level) ∷ [])
    (c.in_ok-write_inlines.ensures ∙ ap (λ x. x ++ events (inlines (h.content.body ∷ []))) c.in_ok-push.ensures.items))
