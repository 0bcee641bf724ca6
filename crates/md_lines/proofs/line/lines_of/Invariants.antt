use Rattle.std.proofs.Common.{length, ◌≡◌, ◌++◌}
use denote.Text.{Utf8}
use denote.Shadow.{shadow}
use Rattle.md_lines.specs.Lines.{lines_of}
use Rattle.md_lines.proofs.line.lines_of.Given as goal

abbrev pub invariant-loop-rest : goal.invariant-loop-rest
invariant-loop-rest l = shadow (Utf8 l.rest) × (l.lines.items ++ lines_of l.rest ≡ lines_of l.text)

abbrev pub decreases-loop-rest : goal.decreases-loop-rest
decreases-loop-rest l = length l.rest
