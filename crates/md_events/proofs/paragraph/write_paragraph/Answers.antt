use Rattle.std.proofs.Common.{◌++◌, ◌∷◌, [], ap, sym, ◌∙◌, refl, List, append_assoc, map}
use Rattle.md_lines.specs.Lines.{body_of}
use Rattle.md_tree.specs.declared.event.Event.{Event}
use Rattle.md_tree.specs.declared.event.Event.TheVariants.{Start, End}
use Rattle.md_tree.specs.declared.event.Tag.TheVariants as tag
use Rattle.md_tree.specs.declared.event.TagEnd.TheVariants as end
use Rattle.md_tree.specs.Tree.{Empty, Nodes, events}
use Rattle.md_inline.specs.Inlines.{inlines}
use Rattle.md_events.specs.Written.{marked}
use Rattle.md_events.proofs.Steps.{element-written, events-marked}
use Rattle.md_events.proofs.paragraph.write_paragraph.Goals as goal

pub returns : goal.returns
returns c =
    let inside : Nodes = inlines (map body_of c.args.lines.now) in
    let marks : List Event = events (marked c.args.mark Empty) in
    let begun : List Event = c.args.out.now.items ++ Start tag.Paragraph ∷ [] in
    element-written tag.Paragraph end.Paragraph (marked c.args.mark inside) _ _ refl
    (c.in_ok-push-2.ensures.items
    ∙ ap (λ x. x ++ End end.Paragraph ∷ [])
    (c.in_ok-write_inlines.ensures
    ∙ (ap (λ x. x ++ events inside) (c.in_ok-write_mark.ensures ∙ ap (λ x. x ++ marks) c.in_ok-push.ensures.items)
    ∙ (append_assoc begun marks (events inside) ∙ ap (λ x. begun ++ x) (sym (events-marked c.args.mark inside))))))
