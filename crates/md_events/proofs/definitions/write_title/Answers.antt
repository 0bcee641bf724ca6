use Rattle.std.proofs.Common.{◌++◌, ◌∷◌, [], ap, ◌∙◌, refl}
use Rattle.md_lines.specs.Lines.{LineText}
use Rattle.md_tree.specs.declared.event.Event.TheVariants.{End}
use Rattle.md_tree.specs.Tree.{events}
use Rattle.md_tree.specs.declared.event.Tag.TheVariants.{DefinitionListTitle}
use Rattle.md_tree.specs.declared.event.TagEnd.TheVariants as end
use Rattle.md_inline.specs.Inlines.{inlines}
use Rattle.md_events.specs.Definitions.{in_title}
use Rattle.md_events.proofs.Steps.{element-written}
use Rattle.md_events.proofs.definitions.write_title.Goals as goal

pub returns : goal.returns
returns c =
    element-written DefinitionListTitle end.DefinitionListTitle (in_title c.args.line.now) _ _ refl
    (c.in_ok-push-2.ensures.items
    ∙ ap (λ x. x ++ End end.DefinitionListTitle ∷ [])
    (c.in_ok-write_inlines.ensures
    ∙ (ap (λ (l : LineText). c.push.new.self.items ++ events (inlines (l.body ∷ []))) c.title_of.ensures
    ∙ ap (λ x. x ++ events (in_title c.args.line.now)) c.in_ok-push.ensures.items)))
