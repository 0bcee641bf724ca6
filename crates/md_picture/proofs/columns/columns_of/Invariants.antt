use Rattle.std.proofs.Common.{◌≡◌, ◌≤◌, ◌++◌, drop, length}
use Rattle.md_picture.specs.Picture.{columns_of}
use Rattle.md_picture.proofs.columns.columns_of.Given as goal

abbrev pub invariant-loop-at : goal.invariant-loop-at
invariant-loop-at l = (l.at ≤ length l.widths) × (l.columns.items ++ columns_of (drop l.at l.widths) (drop l.at l.alignments) ≡ columns_of l.widths l.alignments)
