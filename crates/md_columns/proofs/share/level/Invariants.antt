use Rattle.std.proofs.Common.{◌<◌, ◌≤◌, ◌-◌}
use Rattle.md_columns.specs.declared.bounds.Choice.TheVariants.{At}
use Rattle.md_columns.specs.Fair.{total, widest}
use Rattle.md_columns.proofs.share.level.Given as goal

abbrev pub invariant-loop-high : goal.invariant-loop-high
invariant-loop-high l = (l.low < l.high) × (l.high ≤ widest l.columns) × (total (At l.low) l.columns ≤ l.budget) × (l.budget < total (At l.high) l.columns)

abbrev pub decreases-loop-high : goal.decreases-loop-high
decreases-loop-high l = l.high - l.low
