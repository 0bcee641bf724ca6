use Rattle.std.proofs.Common.{length, drop, List, ◌-◌, ◌+◌, ◌*◌, ◌≡◌, ◌≤◌, ◌++◌}
use Rattle.md_runs.specs.Nest.{pairs, inner}
use Rattle.md_runs.specs.Marks.{Step, joined, steps}
use Rattle.md_runs.specs.Partners.{IsGone}
use Rattle.md_runs.specs.Facts.{IsPen}
use Rattle.md_runs.proofs.write.+nest.Given as goal

abbrev pub decreases-write_nest : goal.decreases-write_nest
decreases-write_nest l = 5 * (l.level.depth + l.level.levels) + 4

abbrev pub decreases-write_parts : goal.decreases-write_parts
decreases-write_parts l = 5 * (l.level.depth + l.level.levels) + 3

abbrev pub decreases-write_pair : goal.decreases-write_pair
decreases-write_pair l = 5 * (l.level.depth + l.level.levels)

abbrev pub decreases-write_part : goal.decreases-write_part
decreases-write_part l = 5 * (l.level.depth + l.level.levels) + 2

abbrev pub decreases-write_group : goal.decreases-write_group
decreases-write_group l = 5 * (l.level.depth + l.level.levels) + 1

abbrev pub decreases-write_inside : goal.decreases-write_inside
decreases-write_inside l = 5 * (l.level.depth + l.level.levels)

abbrev pub invariant-write_parts-loop-at : goal.invariant-write_parts-loop-at
invariant-write_parts-loop-at l = record {
  within : l.at ≤ length l.parts;
  gone : IsGone l.gone (drop l.at l.parts);
  pen : IsPen l.source l.pen;
  written : (ss : List Step) → l.out.items ++ joined l.source.text l.pen.pending (steps (pairs l.source.text l.level.in_link (inner l.source.text l.level.depth l.level.in_link) l.level.levels (drop l.at l.parts)) ++ ss) ≡ l.fn.out.items ++ joined l.source.text l.fn.pen.pending (steps (pairs l.source.text l.level.in_link (inner l.source.text l.level.depth l.level.in_link) l.level.levels l.parts) ++ ss);
}

abbrev pub decreases-write_parts-loop-at : goal.decreases-write_parts-loop-at
decreases-write_parts-loop-at l = length l.parts - l.at
