use Rattle.std.proofs.Common.{◌++◌, ◌∷◌, [], ap, ◌∙◌}
use Rattle.md_events.specs.Kept.{leaf_of}
use Rattle.md_events.proofs.KeptSteps.{kept_line-written}
use Rattle.md_events.proofs.kept.write_kept_line.Goals as goal

pub returns : goal.returns
returns c =
    kept_line-written c.args.kept c.args.column c.args.line.now _ _ _ c.in_ok-write_kept.ensures
    (c.in_ok-push.ensures.items
    ∙ ap (λ e. c.write_kept.new.out.items ++ e ∷ []) (c.leaf_of.ensures ∙ ap (leaf_of c.args.kept) c.borrowed.ensures))
