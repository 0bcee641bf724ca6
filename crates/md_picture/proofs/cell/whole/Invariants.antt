use Rattle.std.proofs.Common.{◌≡◌, ◌++◌, drop}
use Rattle.md_picture.proofs.cell.whole.Given as goal

abbrev pub invariant-loop-span : goal.invariant-loop-span
invariant-loop-span l = l.spans.items ++ drop l.span-index l.span-items ≡ l.span-items
