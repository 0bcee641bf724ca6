use Rattle.std.proofs.Common.{◌++◌, [], List, ℕ, ap, sym, ◌∙◌, None, false}
use Rattle.std.proofs.lemmas.List.{append-nil}
use Rattle.md_runs.specs.Nest.{nest}
use Rattle.md_runs.specs.Marks.{joined, steps}
use Rattle.md_runs.proofs.Joined.{joined-all, joined-none}
use Rattle.md_runs.proofs.write.write_leaves.Goals as goal

pub returns : goal.returns
returns c =
    let text : List ℕ = c.args.source.now.text in
    sym (append-nil _) ∙ (c.in_ok-flush.ensures.written [] ∙ (ap (λ x. c.write_nest.new.out.items ++ x) (sym (joined-none text c.write_nest.new.pen.pending))
    ∙ (c.in_ok-write_nest.ensures.written [] ∙ ap (λ x. c.args.out.now.items ++ x)
    (ap (λ o. joined text o (steps (nest text 32 32 false c.args.leaves.now) ++ [])) c.new-pen.ensures.pending
    ∙ (ap (joined text None) (append-nil (steps (nest text 32 32 false c.args.leaves.now))) ∙ joined-all text None (nest text 32 32 false c.args.leaves.now))))))
