use Rattle.std.proofs.Common.{sym, ap, subst, ◌∙◌}
use Rattle.std.specs.List.{list_all}
use Rattle.std.specs.Str.{IsUtf8}
use Rattle.term_core.specs.BufferRows.{buffer_rows}
use Rattle.term_ansi.specs.Printed.{is_bad_row, has_bad}
use Rattle.term_ansi.specs.Runs.{is_byte_row}
use Rattle.term_ansi.specs.Texts.{is_text_row, is_bad_text_row}
use Rattle.term_ansi.proofs.CleanLemmas.{utf8-rows}
use Rattle.term_ansi.proofs.PrintLemmas.{then_row, any-step, all-step, any-found, rows_text-done, bad-rows, good-row}
use Rattle.term_ansi.proofs.print.print_ansi.Goals as goal

pub rows-preserved : goal.rows-preserved
rows-preserved c =
    let row = c.in-Some.row.now in
    let steps = c.in-Some.ensures.steps in (
      then_row _ _ _ row _ _ steps c.in-Ok.ensures.text.0 c.in_ok-push_byte.ensures ∙ c.rows.invariant.0,
      sym (any-step is_bad_row row _ _ steps c.in-Ok.ensures.text.1) ∙ c.rows.invariant.1,
      sym (all-step is_byte_row row _ _ steps c.in-Ok.ensures.colors) ∙ c.rows.invariant.2,
      sym (all-step is_text_row row _ _ steps c.in-Ok.ensures.symbols) ∙ c.rows.invariant.3,
      sym (any-step is_bad_text_row row _ _ steps (good-row row c.in-Ok.ensures.text.1)) ∙ c.rows.invariant.4,
    )

pub from_utf8_unchecked-requires : goal.from_utf8_unchecked-requires
from_utf8_unchecked-requires c =
    let none = c.in_default.ensures.steps.0 in
    subst IsUtf8 (sym (c.in_ok-bytes.ensures ∙ rows_text-done c.rows.pen _ _ none c.rows.invariant.0))
    (utf8-rows (buffer_rows c.args.buf.now) (sym c.rows.invariant.2 ∙ ap (list_all is_byte_row) none) (sym c.rows.invariant.3 ∙ ap (list_all is_text_row) none))

pub returns-clause-text : goal.returns-clause-text
returns-clause-text c =
    let none = c.in_default.ensures.steps.0 in (
      ap (λ v. v.items) c.from_utf8_unchecked.ensures.value ∙ c.in_ok-bytes.ensures ∙ rows_text-done c.rows.pen _ _ none c.rows.invariant.0,
      sym c.rows.invariant.1 ∙ ap has_bad none,
    )

pub returns-in-Err-clause-text : goal.returns-in-Err-clause-text
returns-in-Err-clause-text c = λ is.
    bad-rows (buffer_rows c.args.buf.now)
    (sym c.rows.invariant.4 ∙ any-found is_bad_text_row c.in-Some.row.now _ _ c.in-Some.ensures.steps (c.in-Err.ensures.text is))
