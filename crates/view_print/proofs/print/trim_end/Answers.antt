use Rattle.std.proofs.Common.{◌∙◌}
use Rattle.view_print.proofs.PrintLemmas.{TrimsTo-step, TrimsTo-none, TrimsTo-other}
use Rattle.view_print.proofs.print.trim_end.Goals as goal
use Rattle.view_print.proofs.print.trim_end.Goals.{then-end-test+else-index-eq32, else-end-test}

pub end-preserved : goal.end-preserved
end-preserved c = TrimsTo-step _ _ _ _ c.end.invariant c.end-test.true c.index.ensures c.if-index-eq32.true

pub returns : goal.returns
returns c =
    c.truncate.ensures.items
    ∙ elim c.end-test.branch [
      | then-end-test+else-index-eq32 w ↦ TrimsTo-other _ _ _ _ c.end.invariant w.end-test.true w.index.ensures w.if-index-eq32.false
      | else-end-test w ↦ TrimsTo-none _ _ _ c.end.invariant w.end-test.false
    ]
