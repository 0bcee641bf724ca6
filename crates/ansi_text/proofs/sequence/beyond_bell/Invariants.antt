use Rattle.std.proofs.Common.{◌≡◌, length}
use Rattle.ansi_text.specs.Pieces.{beyond, is_bell}
use Rattle.ansi_text.proofs.sequence.beyond_bell.Given as goal

abbrev pub invariant-loop-first : goal.invariant-loop-first
invariant-loop-first l = beyond is_bell l.rest ≡ beyond is_bell l.bytes

abbrev pub decreases-loop-first : goal.decreases-loop-first
decreases-loop-first l = length l.rest
