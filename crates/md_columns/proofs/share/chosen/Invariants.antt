use Rattle.std.proofs.Common.{◌≡◌, ◌++◌, map, drop}
use Rattle.md_columns.specs.Fair.{width_of}
use Rattle.md_columns.proofs.share.chosen.Given as goal

abbrev pub invariant-loop-column : goal.invariant-loop-column
invariant-loop-column l = l.widths.items ++ map (λ column. width_of l.choice column) (drop l.column-index l.columns) ≡ map (λ column. width_of l.choice column) l.columns
