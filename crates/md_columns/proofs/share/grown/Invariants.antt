use Rattle.std.proofs.Common.{◌≡◌, ◌++◌, drop}
use Rattle.md_columns.specs.Fair.{grown}
use Rattle.md_columns.proofs.share.grown.Given as goal

abbrev pub invariant-loop-column : goal.invariant-loop-column
invariant-loop-column l = l.widths.items ++ grown l.level l.spare (drop l.column-index l.columns) ≡ grown l.level l.fn.spare l.columns
