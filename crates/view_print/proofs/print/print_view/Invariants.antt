use Rattle.std.proofs.Common.{◌≡◌, ◌++◌}
use Rattle.term_core.specs.BufferRows.{buffer_rows}
use Rattle.term_core.specs.BufferRowsIter.{buffer_rows_left}
use Rattle.view_print.specs.Print.{lines_of}
use Rattle.view_print.proofs.print.print_view.Given as goal

abbrev pub invariant-rows : goal.invariant-rows
invariant-rows l = l.out.items ++ lines_of (buffer_rows_left l.rest) ≡ lines_of (buffer_rows l.buf)
