use Rattle.std.proofs.Common.{ℕ, suc, ◌≡◌, ◌-◌, length}
use Rattle.std.specs.List.{slice_index}
use Rattle.md_leaves.proofs.ticks.put.Given as goal

abbrev pub invariant-loop-numbers : goal.invariant-loop-numbers
invariant-loop-numbers l = (k : ℕ) → slice_index l.numbers.items k ≡ slice_index l.fn.numbers.items k

abbrev pub decreases-loop-numbers : goal.decreases-loop-numbers
decreases-loop-numbers l = suc l.index - length l.numbers.items
