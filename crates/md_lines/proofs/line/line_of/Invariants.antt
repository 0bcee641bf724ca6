use Rattle.std.proofs.Common.{length, ◌-◌, ◌≡◌}
use Rattle.md_lines.proofs.LineLemmas.{Reads}
use Rattle.md_lines.proofs.line.line_of.Given as goal

abbrev pub invariant-loop-at : goal.invariant-loop-at
invariant-loop-at l = (l.bytes ≡ l.text) × Reads l.text l.indent l.at

abbrev pub decreases-loop-at : goal.decreases-loop-at
decreases-loop-at l = length l.bytes - l.at
