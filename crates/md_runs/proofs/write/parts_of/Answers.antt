use Rattle.std.proofs.Common.{sym, ◌∙◌}
use Rattle.md_runs.proofs.PlainSteps.{parts_of-plain}
use Rattle.md_runs.proofs.write.parts_of.Goals as goal

pub returns : goal.returns
returns c =
    c.in_ok-singles.ensures ∙ sym (parts_of-plain c.args.level.depth c.args.level.in_link c.args.leaves.now (sym c.if-has_opener.ensures))
