use Rattle.std.proofs.Common.{◌++◌, ◌∷◌, ap, ◌∙◌}
use Rattle.md_tree.specs.declared.event.Event.TheVariants as event
use Rattle.md_runs.specs.Marks.{An, joined}
use Rattle.md_runs.proofs.alone.write_code.Goals as goal

pub returns-clause-written : goal.returns-clause-written
returns-clause-written c = λ ss.
    c.in_ok-put_event.ensures.written ss
    ∙ (c.in_ok-flush_to.ensures.written (event.Code c.in_ok-text.text) ss
    ∙ ap (λ x. c.args.out.now.items ++ joined c.args.source.now.text c.args.pen.now.pending (An (event.Code x) ∷ ss)) c.in_ok-text.ensures.text)
