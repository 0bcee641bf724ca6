use Rattle.std.proofs.Common.{length}
use Rattle.ansi_text.proofs.RestyleLemmas.{Restyles}
use Rattle.ansi_text.proofs.line.style_after_line.Given as goal

abbrev pub invariant-loop-rest : goal.invariant-loop-rest
invariant-loop-rest l = Restyles l.fn.style l.line l.style l.rest

abbrev pub decreases-loop-rest : goal.decreases-loop-rest
decreases-loop-rest l = length l.rest
