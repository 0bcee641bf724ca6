use Rattle.std.proofs.Common.{◌≡◌, ◌≤◌, length, Some}
use Rattle.std.specs.Option.{option_map}
use Rattle.ansi_text.specs.Numbers.{number, with_digits}
use Rattle.ansi_text.specs.Reads.{capped}
use Rattle.ansi_text.proofs.number.number.Given as goal

abbrev pub invariant-loop-next : goal.invariant-loop-next
invariant-loop-next l = (Some (capped (with_digits l.value l.rest)) ≡ option_map capped (number l.bytes)) × (l.value ≤ 1000)

abbrev pub decreases-loop-next : goal.decreases-loop-next
decreases-loop-next l = length l.rest
