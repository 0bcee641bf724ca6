use Rattle.std.proofs.Common.{◌≡◌, ◌++◌}
use Rattle.md_picture.specs.Picture.{cell_spans}
use Rattle.md_picture.proofs.row.push_spans.Given as goal

abbrev pub invariant-loop-span : goal.invariant-loop-span
invariant-loop-span l = (l.line.style ≡ l.fn.line.style) × (l.line.spans ++ cell_spans l.style l.span-iterator.rest.items ≡ l.fn.line.spans ++ cell_spans l.style l.fn.spans.items)
