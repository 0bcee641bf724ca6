use Rattle.std.proofs.Common.{length}
use Rattle.ansi_text.proofs.LineLemmas.{Reads}
use Rattle.ansi_text.proofs.line.ansi_line.Given as goal

abbrev pub invariant-loop-rest : goal.invariant-loop-rest
invariant-loop-rest l = Reads l.fn.style l.bytes l.line l.style l.rest

abbrev pub decreases-loop-rest : goal.decreases-loop-rest
decreases-loop-rest l = length l.rest
