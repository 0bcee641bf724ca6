use Rattle.std.proofs.Common.{length, ◌≡◌, ◌==◌, ◌&&◌}
use Rattle.std.specs.List.{list_all}
use Rattle.md_rules.specs.Tables.{is_delimiter}
use Rattle.md_rules.proofs.table.are_marked.Given as goal

abbrev pub invariant-loop-mark : goal.invariant-loop-mark
invariant-loop-mark l =
    (length l.cells == length l.marks && list_all is_delimiter l.marks) ≡ (length l.fn.cells == length l.fn.marks && list_all is_delimiter l.fn.marks)

abbrev pub decreases-loop-mark : goal.decreases-loop-mark
decreases-loop-mark l = length l.marks
