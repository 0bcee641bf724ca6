use Rattle.std.proofs.Common.{◌≡◌}
use Rattle.md_text.proofs.machine.Machine.into_text.Given as goal

abbrev pub invariant-loop-line : goal.invariant-loop-line
invariant-loop-line l = l.text ≡ l.yielded
