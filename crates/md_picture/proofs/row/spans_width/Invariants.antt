use Rattle.std.proofs.Common.{◌≡◌, ◌+◌, drop}
use Rattle.md_picture.specs.Picture.{spans_width}
use Rattle.md_picture.proofs.row.spans_width.Given as goal

abbrev pub invariant-loop-span : goal.invariant-loop-span
invariant-loop-span l = l.sum + spans_width (drop l.span-index l.spans) ≡ spans_width l.spans
