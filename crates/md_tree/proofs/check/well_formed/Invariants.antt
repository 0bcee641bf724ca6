use Rattle.std.proofs.Common.{◌≡◌, drop, is_some}
use Rattle.md_tree.specs.Parse.{tree_of}
use Rattle.md_tree.proofs.Stacks.{check}
use Rattle.md_tree.proofs.check.well_formed.Given as goal

-- what is left, tested from here on, says whether the events have a tree
abbrev pub invariant-loop-event : goal.invariant-loop-event
invariant-loop-event l = check l.open l.place (drop l.event-index l.events) ≡ is_some (tree_of l.events)
