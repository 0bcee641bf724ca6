use Rattle.std.proofs.Common.{length, map, ◌≡◌, ◌≤◌, ◌-◌}
use Rattle.md_lines.specs.Lines.{body_of}
use Rattle.md_runs.specs.Source.{line_start}
use Rattle.md_runs.proofs.source.line_at.Given as goal

abbrev pub invariant-loop-line : goal.invariant-loop-line
invariant-loop-line l = record {
  within : l.line ≤ length (map body_of l.lines) - 1;
  start : l.start ≡ line_start l.line (map body_of l.lines);
  before : l.start ≤ l.place;
}

abbrev pub decreases-loop-line : goal.decreases-loop-line
decreases-loop-line l = length l.lines - l.line
