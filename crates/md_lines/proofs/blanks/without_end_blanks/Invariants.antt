use Rattle.std.proofs.Common.{◌≡◌}
use Rattle.md_lines.proofs.BlankLemmas.{Trims}
use Rattle.md_lines.proofs.blanks.without_end_blanks.Given as goal

abbrev pub invariant-loop-end : goal.invariant-loop-end
invariant-loop-end l = (l.bytes ≡ l.text) × Trims l.text l.end

abbrev pub decreases-loop-end : goal.decreases-loop-end
decreases-loop-end l = l.end
