use Rattle.std.proofs.Common.{◌++◌, ◌∷◌, [], ap, ◌∙◌, refl}
use Rattle.md_tree.specs.declared.event.Event.TheVariants.{End}
use Rattle.md_tree.specs.declared.event.Tag.TheVariants.{TableCell}
use Rattle.md_tree.specs.declared.event.TagEnd.TheVariants as end
use Rattle.md_tree.specs.Tree.{events}
use Rattle.md_inline.specs.Inlines.{inlines}
use Rattle.md_events.proofs.Steps.{element-written}
use Rattle.md_events.proofs.tables.write_cell.Goals as goal

pub returns : goal.returns
returns c =
    element-written TableCell end.TableCell (inlines (c.args.text.now ∷ [])) _ _ refl
    (c.in_ok-push-2.ensures.items
    ∙ ap (λ x. x ++ End end.TableCell ∷ [])
    (c.in_ok-write_inlines.ensures ∙ ap (λ x. x ++ events (inlines (c.args.text.now ∷ []))) c.in_ok-push.ensures.items))
