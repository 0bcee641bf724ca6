use Rattle.std.proofs.Common.{length, drop, ◌-◌, ◌≡◌, ◌++◌}
use Rattle.md_tree.specs.Tree.{events}
use Rattle.md_events.specs.Metadata.{further_texts}
use Rattle.md_events.proofs.metadata.write_further_texts.Given as goal

abbrev pub invariant-loop-at : goal.invariant-loop-at
invariant-loop-at l = l.out.items ++ events (further_texts (drop l.at l.lines)) ≡ l.fn.out.items ++ events (further_texts l.lines)

abbrev pub decreases-loop-at : goal.decreases-loop-at
decreases-loop-at l = length l.lines - l.at
