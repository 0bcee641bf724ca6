use Rattle.std.proofs.Common.{length, drop, ◌-◌, ◌≡◌, ◌≤◌}
use Rattle.md_rules.specs.Entries.{entries_more}
use Rattle.md_rules.proofs.CodeLemmas.{with_taken}
use Rattle.md_rules.proofs.entry.entries_more.Given as goal

abbrev pub invariant-loop-at : goal.invariant-loop-at
invariant-loop-at l =
    record {
      order : l.taken ≤ l.at;
      within : l.at ≤ length l.lines;
      so_far : with_taken l.taken l.at (entries_more 0 (drop l.at l.lines)) ≡ entries_more 0 l.lines;
    }

abbrev pub decreases-loop-at : goal.decreases-loop-at
decreases-loop-at l = length l.lines - l.at
