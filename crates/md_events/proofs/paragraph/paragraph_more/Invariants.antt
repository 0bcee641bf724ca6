use Rattle.std.proofs.Common.{length, drop, ◌-◌, ◌≡◌, ◌+◌, ◌≤◌}
use Rattle.md_events.specs.Blocks.{paragraph_more}
use Rattle.md_events.proofs.paragraph.paragraph_more.Given as goal

abbrev pub invariant-loop-at : goal.invariant-loop-at
invariant-loop-at l =
    (l.at ≤ length l.lines) × (l.at + paragraph_more l.nests (drop l.at l.lines) ≡ paragraph_more l.nests l.lines)

abbrev pub decreases-loop-at : goal.decreases-loop-at
decreases-loop-at l = length l.lines - l.at
