use Rattle.std.proofs.Common.{◌≡◌, ◌++◌}
use Rattle.std.specs.List.{list_all}
use Rattle.term_core.specs.BufferRows.{buffer_rows}
use Rattle.term_core.specs.BufferRowsIter.{buffer_rows_left}
use Rattle.term_ansi.specs.Printed.{rows_text, has_bad}
use Rattle.term_ansi.specs.Runs.{is_byte_row}
use Rattle.term_ansi.specs.Texts.{is_text_row, has_bad_text}
use Rattle.term_ansi.proofs.print.print_ansi.Given as goal

abbrev pub invariant-rows : goal.invariant-rows
invariant-rows l =
    (l.pen ++ rows_text (buffer_rows_left l.rest) ≡ rows_text (buffer_rows l.buf))
    × (has_bad (buffer_rows_left l.rest) ≡ has_bad (buffer_rows l.buf))
    × (list_all is_byte_row (buffer_rows_left l.rest) ≡ list_all is_byte_row (buffer_rows l.buf))
    × (list_all is_text_row (buffer_rows_left l.rest) ≡ list_all is_text_row (buffer_rows l.buf))
    × (has_bad_text (buffer_rows_left l.rest) ≡ has_bad_text (buffer_rows l.buf))
