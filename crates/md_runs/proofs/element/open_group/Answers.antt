use Rattle.std.proofs.Common.{◌++◌, ◌∷◌, ap, ◌∙◌}
use Rattle.md_tree.specs.declared.event.Event.TheVariants as event
use Rattle.md_runs.specs.Nest.{group_tag}
use Rattle.md_runs.specs.Marks.{An, joined}
use Rattle.md_runs.proofs.element.open_group.Goals as goal

pub returns-clause-written : goal.returns-clause-written
returns-clause-written c = λ ss.
    c.in_ok-put_event.ensures.written ss
    ∙ (c.in_ok-flush_to.ensures.written (event.Start c.group_tag-tag.result) ss
    ∙ ap (λ x. c.args.out.now.items ++ joined c.args.source.now.text c.args.pen.now.pending (An (event.Start x) ∷ ss))
    (c.group_tag-tag.ensures ∙ ap (group_tag c.args.is_image) (c.borrowed.ensures ∙ c.text_at-text.ensures.value)))
