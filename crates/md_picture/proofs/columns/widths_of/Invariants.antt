use Rattle.std.proofs.Common.{◌≡◌, ◌++◌, drop, map}
use Rattle.md_columns.specs.declared.bounds.Bounds.{Bounds}
use Rattle.md_picture.proofs.columns.widths_of.Given as goal

abbrev pub invariant-loop-column : goal.invariant-loop-column
invariant-loop-column l = l.widths.items ++ map (λ (c : Bounds). c.most) (drop l.column-index l.bounds) ≡ map (λ (c : Bounds). c.most) l.bounds
