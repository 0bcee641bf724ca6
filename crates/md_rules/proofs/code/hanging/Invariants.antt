use Rattle.std.proofs.Common.{length, drop, ◌-◌, ◌≡◌, ◌≤◌}
use Rattle.md_rules.specs.Code.{hanging}
use Rattle.md_rules.proofs.CodeLemmas.{with_taken}
use Rattle.md_rules.proofs.code.hanging.Given as goal

abbrev pub invariant-loop-at : goal.invariant-loop-at
invariant-loop-at l =
    record {
      order : l.taken ≤ l.at;
      within : l.at ≤ length l.lines;
      so_far : with_taken l.taken l.at (hanging l.column (drop l.at l.lines)) ≡ hanging l.column l.lines;
    }

abbrev pub decreases-loop-at : goal.decreases-loop-at
decreases-loop-at l = length l.lines - l.at
