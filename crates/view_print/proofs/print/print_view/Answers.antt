use Rattle.std.proofs.Common.{◌≡◌, ◌++◌, ◌∷◌, [], ap, ap₂, sym, ◌∙◌, append_assoc, append-nil}
use Rattle.term_core.specs.BufferRows.{buffer_rows}
use Rattle.term_core.specs.BufferRowsIter.{buffer_rows_left}
use Rattle.view_print.specs.Print.{lines_of, row_text}
use Rattle.view_print.proofs.PrintLemmas.{lines_of-none, lines_of-cons}
use Rattle.view_print.proofs.print.print_view.Goals as goal

pub rows-preserved : goal.rows-preserved
rows-preserved c =
    let rest = lines_of (buffer_rows_left c.next.new.self) in
    let row = c.in-Some.row.now in
    ap (λ t. t ++ rest) c.in_ok-push_row.ensures
    ∙ append_assoc c.rows.out.items (row_text row ++ 10 ∷ []) rest
    ∙ ap (λ t. c.rows.out.items ++ t) (sym (ap lines_of c.in-Some.ensures.steps ∙ lines_of-cons row (buffer_rows_left c.next.new.self)))
    ∙ c.rows.invariant

pub returns : goal.returns
returns c =
    let made : c.rows.out.items ≡ lines_of (buffer_rows c.args.buf.now) =
    sym (append-nil c.rows.out.items)
    ∙ sym (ap (λ t. c.rows.out.items ++ t) (ap lines_of c.in_default.ensures.steps.0 ∙ lines_of-none))
    ∙ c.rows.invariant in
    c.in_ok-extend_from_slice.ensures.items
    ∙ ap₂ (λ text count. text ++ count) made (c.as_bytes.ensures.value ∙ c.in_ok-count.ensures.ok)
