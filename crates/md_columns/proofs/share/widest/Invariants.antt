use Rattle.std.proofs.Common.{◌≡◌, drop, max}
use Rattle.md_columns.specs.Fair.{widest}
use Rattle.md_columns.proofs.share.widest.Given as goal

abbrev pub invariant-loop-column : goal.invariant-loop-column
invariant-loop-column l = max l.most (widest (drop l.column-index l.columns)) ≡ widest l.columns
