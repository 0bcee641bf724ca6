use Rattle.md_leaves.proofs.TickLemmas.{run_end-past}
use Rattle.md_leaves.proofs.ticks.TickRuns.last_end.Goals as goal

pub returns-else-self : goal.returns-else-self
returns-else-self c = λ at le plain. run_end-past c.args.source.now c.args.n at c.requires.some le
