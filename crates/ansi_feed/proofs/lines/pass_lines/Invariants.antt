use Rattle.std.proofs.Common.{◌≡◌, length}
use Rattle.term_text.specs.LineEnds.{raw_lines}
use Rattle.ansi_feed.specs.Answers.{Passes}
use Rattle.ansi_feed.proofs.lines.pass_lines.Given as goal

abbrev pub invariant-loop-left : goal.invariant-loop-left
invariant-loop-left l = record {
  passes : Passes l.bound l.fn.style l.bytes l.style l.rest;
  left : l.left ≡ length (raw_lines l.rest);
}

abbrev pub decreases-loop-left : goal.decreases-loop-left
decreases-loop-left l = l.left
