use Rattle.std.proofs.Common.{◌≡◌, ◌≤◌, ◌+◌, length}
use Rattle.term_text.specs.LineEnds.{raw_lines}
use Rattle.ansi_feed.proofs.lines.line_count.Given as goal

abbrev pub invariant-loop-rest : goal.invariant-loop-rest
invariant-loop-rest l = record {
  lines : l.count + length (raw_lines l.rest) ≡ length (raw_lines l.bytes);
  few : l.count + length l.rest ≤ length l.bytes;
}

abbrev pub decreases-loop-rest : goal.decreases-loop-rest
decreases-loop-rest l = length l.rest
