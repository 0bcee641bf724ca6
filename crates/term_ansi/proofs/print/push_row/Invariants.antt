use Rattle.std.proofs.Common.{◌≡◌, ◌≤◌, ◌+◌, ◌++◌, length}
use Rattle.term_ansi.specs.ShownIter.{shown_left}
use Rattle.term_ansi.specs.Printed.{row_text}
use Rattle.term_ansi.proofs.PrintLemmas.{row_left, RowTests}
use Rattle.term_ansi.proofs.print.push_row.Given as goal

abbrev pub invariant-cells : goal.invariant-cells
invariant-cells l =
    (row_left l.pen l.last l.blanks (shown_left l.rest) ≡ l.initial.pen ++ row_text l.row)
    × RowTests l.row (shown_left l.rest)
    × (l.blanks + length (shown_left l.rest) ≤ length l.row)
