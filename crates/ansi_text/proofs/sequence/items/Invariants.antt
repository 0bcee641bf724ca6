use Rattle.std.proofs.Common.{◌≡◌, length}
use Rattle.std.specs.Option.{option_map}
use Rattle.ansi_text.specs.Reads.{with_items}
use Rattle.ansi_text.specs.Sequences.{items}
use Rattle.ansi_text.proofs.sequence.items.Given as goal

abbrev pub invariant-loop-rest : goal.invariant-loop-rest
invariant-loop-rest l = option_map (with_items l.style) (items l.rest) ≡ option_map (with_items l.fn.style) (items l.bytes)

abbrev pub decreases-loop-rest : goal.decreases-loop-rest
decreases-loop-rest l = length l.rest
