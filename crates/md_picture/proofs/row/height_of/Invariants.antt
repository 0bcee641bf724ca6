use Rattle.std.proofs.Common.{◌≡◌, ◌≤◌, drop, max}
use Rattle.md_picture.specs.Picture.{height_of}
use Rattle.md_picture.proofs.row.height_of.Given as goal

abbrev pub invariant-loop-rows : goal.invariant-loop-rows
invariant-loop-rows l = (1 ≤ l.height) × (max l.height (height_of (drop l.rows-index l.parts)) ≡ height_of l.parts)
