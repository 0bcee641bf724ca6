use Rattle.std.proofs.Common.{length}
use Rattle.ansi_text.proofs.TextLemmas.{ReadsLines}
use Rattle.ansi_text.proofs.text.bytes_to_text.Given as goal

abbrev pub invariant-loop-rest : goal.invariant-loop-rest
invariant-loop-rest l = ReadsLines l.bytes l.text l.style l.rest

abbrev pub decreases-loop-rest : goal.decreases-loop-rest
decreases-loop-rest l = length l.rest
