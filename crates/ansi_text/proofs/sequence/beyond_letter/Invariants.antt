use Rattle.std.proofs.Common.{◌≡◌, length}
use Rattle.ansi_text.specs.Pieces.{beyond, is_letter}
use Rattle.ansi_text.proofs.sequence.beyond_letter.Given as goal

abbrev pub invariant-loop-first : goal.invariant-loop-first
invariant-loop-first l = beyond is_letter l.rest ≡ beyond is_letter l.bytes

abbrev pub decreases-loop-first : goal.decreases-loop-first
decreases-loop-first l = length l.rest
