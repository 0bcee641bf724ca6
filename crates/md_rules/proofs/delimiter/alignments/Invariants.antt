use Rattle.std.proofs.Common.{length, map, ◌≡◌, ◌++◌}
use Rattle.md_rules.specs.Tables.{alignment_of, alignments}
use Rattle.md_rules.proofs.delimiter.alignments.Given as goal

abbrev pub invariant-loop-cell : goal.invariant-loop-cell
invariant-loop-cell l = l.alignments ++ map alignment_of l.cells ≡ alignments l.line

abbrev pub decreases-loop-cell : goal.decreases-loop-cell
decreases-loop-cell l = length l.cells
