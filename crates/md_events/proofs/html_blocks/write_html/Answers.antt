use Rattle.std.proofs.Common.{◌++◌, ◌∷◌, [], ap, ◌∙◌, refl}
use Rattle.md_tree.specs.declared.event.Event.TheVariants.{End}
use Rattle.md_tree.specs.Tree.{events}
use Rattle.md_tree.specs.declared.event.Tag.TheVariants.{HtmlBlock}
use Rattle.md_tree.specs.declared.event.TagEnd.TheVariants as end
use Rattle.md_events.specs.declared.kept.Kept.TheVariants.{Html}
use Rattle.md_events.specs.Kept.{kept_lines}
use Rattle.md_events.proofs.Steps.{element-written}
use Rattle.md_events.proofs.html_blocks.write_html.Goals as goal

pub returns : goal.returns
returns c =
    element-written HtmlBlock end.HtmlBlock (kept_lines Html 0 c.args.lines.now) _ _ refl
    (c.in_ok-push-2.ensures.items
    ∙ ap (λ x. x ++ End end.HtmlBlock ∷ [])
    (c.in_ok-write_kept_lines.ensures ∙ ap (λ x. x ++ events (kept_lines Html 0 c.args.lines.now)) c.in_ok-push.ensures.items))
