use Rattle.std.proofs.Common.{arith, length}
use Rattle.md_leaves.proofs.StopLemmas.{IsStop-past}
use Rattle.md_leaves.proofs.parens.Parens.next_stop.Goals as goal

pub returns-clause-stop : goal.returns-clause-stop
returns-clause-stop c = IsStop-past c.args.source.now (length c.args.source.now) (omega arith)

pub returns-then-not-self-clause-stop : goal.returns-then-not-self-clause-stop
returns-then-not-self-clause-stop c = IsStop-past c.args.source.now (length c.args.source.now) (omega arith)
