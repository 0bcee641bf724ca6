-- Lines that a block may begin at.
use Rattle.std.specs.Prelude.{nat_le, Bool}
use Rattle.md_lines.specs.Lines.{LineText}

-- an indent of at most 3
abbrev pub is_shallow : LineText → Bool
is_shallow line = nat_le line.indent 3
