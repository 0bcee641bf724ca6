use Rattle.std.proofs.Common.{◌≡◌, ◌++◌}
use Rattle.md_picture.specs.Picture.{with_parts}
use Rattle.md_picture.proofs.row.with_parts.Given as goal

abbrev pub invariant-loop-line : goal.invariant-loop-line
invariant-loop-line l = l.longer.items ++ with_parts l.border l.style l.column l.line-iterator.rest.items l.rest.rest.items ≡ with_parts l.border l.style l.column l.fn.lines.items l.fn.rows
