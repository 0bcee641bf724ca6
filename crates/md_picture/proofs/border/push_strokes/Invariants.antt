use Rattle.std.proofs.Common.{◌≡◌, ◌++◌, drop, string_bytes}
use Rattle.md_picture.specs.Picture.{strokes}
use Rattle.md_picture.proofs.border.push_strokes.Given as goal

abbrev pub invariant-loop-column : goal.invariant-loop-column
invariant-loop-column l = string_bytes l.text ++ strokes l.edge (drop l.column-index l.columns) ≡ string_bytes l.fn.text ++ strokes l.edge l.columns
