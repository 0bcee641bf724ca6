use Rattle.std.proofs.Common.{length, drop, map, ◌-◌, ◌≡◌, ◌≤◌, ◌++◌}
use Rattle.std.specs.Prelude.{string_bytes}
use Rattle.std.specs.List.{join_with_byte}
use Rattle.md_lines.specs.Lines.{body_of}
use Rattle.md_inline.proofs.write.joined.Given as goal

abbrev pub invariant-loop-at : goal.invariant-loop-at
invariant-loop-at l = (l.at ≤ length l.lines) × (string_bytes l.text ++ join_with_byte 10 (map body_of (drop l.at l.lines)) ≡ join_with_byte 10 (map body_of l.lines))

abbrev pub decreases-loop-at : goal.decreases-loop-at
decreases-loop-at l = length l.lines - l.at
