use Rattle.std.proofs.Common.{◌≡◌, ◌&&◌, true, false, ℕ, List, ◌++◌, length, sym, ap, ap₂, subst, ◌∙◌, arith}
use Rattle.std.specs.List.{list_any, list_all}
use Rattle.std.specs.Str.{IsUtf8}
use Rattle.term_core.specs.Cells.{CellView}
use Rattle.term_ansi.specs.declared.look.Look.{Look}
use Rattle.term_ansi.specs.Printed.{change, is_bad, is_bad_symbol}
use Rattle.term_ansi.specs.Runs.{is_byte_color, is_byte_cell}
use Rattle.term_ansi.specs.Texts.{is_text_cell}
use Rattle.term_ansi.specs.ShownIter.{shown_left}
use Rattle.term_ansi.proofs.PrintLemmas.{row_left, row-blank, row-other, row-end, then_symbol, RowTests-all, RowTests-step, RowTests-bad, length-visited}
use Rattle.term_ansi.proofs.print.push_row.Goals as goal

pub cells-init : goal.cells-init
cells-init c =
    let row = c.args.row.now in
    let all = c.new-rest.ensures in (
      ap₂ (λ (l : Look) (cs : List CellView). row_left c.args.pen.now l 0 cs) c.plain-last.ensures all,
      RowTests-all row (shown_left c.new-rest.result) all,
      omega (arith, ap (λ (cs : List CellView). length cs) all, length-visited 0 row),
    )

pub returns-then-is_bad_symbol-clause-text : goal.returns-then-is_bad_symbol-clause-text
returns-then-is_bad_symbol-clause-text c = λ _.
    RowTests-bad c.args.row.now c.in-Some.cell.now _ _ c.in-Some.ensures.steps (ap is_bad_symbol (sym c.symbol-symbol.ensures) ∙ sym c.if-is_bad_symbol.ensures)
    (subst IsUtf8 c.symbol-symbol.ensures c.symbol-symbol.utf8) c.cells.invariant.1

pub cells-preserved-then-is_blank : goal.cells-preserved-then-is_blank
cells-preserved-then-is_blank c =
    let cell = c.in-Some.cell.now in
    let steps = c.in-Some.ensures.steps in
    let good : is_bad cell ≡ false = ap is_bad_symbol (sym c.symbol-symbol.ensures) ∙ sym c.if-is_bad_symbol.ensures in
    let byte : is_byte_cell cell ≡ true =
    ap₂ (λ a b. a && b) (ap is_byte_color (sym c.fg.ensures) ∙ c.know_color.ensures) (ap is_byte_color (sym c.bg.ensures) ∙ c.know_color-in-Some.ensures) in (
      row-blank c.cells.pen c.cells.last c.cells.blanks cell _ _ steps (sym c.if-is_blank.ensures) ∙ c.cells.invariant.0,
      RowTests-step c.args.row.now cell _ _ steps good byte (subst IsUtf8 c.symbol-symbol.ensures c.symbol-symbol.utf8) c.cells.invariant.1,
      omega (arith, ap (λ (cs : List CellView). length cs) steps, c.cells.invariant.2),
    )

pub cells-preserved : goal.cells-preserved
cells-preserved c =
    let cell = c.in-Some.cell.now in
    let steps = c.in-Some.ensures.steps in
    let good : is_bad cell ≡ false = ap is_bad_symbol (sym c.symbol-symbol.ensures) ∙ sym c.if-is_bad_symbol.ensures in
    let byte : is_byte_cell cell ≡ true =
    ap₂ (λ a b. a && b) (ap is_byte_color (sym c.fg.ensures) ∙ c.know_color.ensures) (ap is_byte_color (sym c.bg.ensures) ∙ c.know_color-in-Some.ensures) in
    let mid = c.push_blanks.new.pen in
    let now = c.push_symbol.new.self in
    let between = c.in_ok-before.before in
    let written = then_symbol mid _ now between _ _ c.in_ok-push_change.ensures c.in_ok-push_symbol.ensures
    ∙ ap₂ (λ (l : Look) (s : List ℕ). mid ++ (change between l ++ s)) c.of-look.ensures c.symbol-symbol.ensures in (
      ap (λ (l : Look). row_left now l 0 (shown_left c.next.new.self)) c.of-look.ensures
          ∙ row-other c.cells.pen mid now c.cells.last between c.cells.blanks cell _ _ steps (sym c.if-is_blank.ensures) c.in_ok-before.ensures written
          ∙ c.cells.invariant.0,
      RowTests-step c.args.row.now cell _ _ steps good byte (subst IsUtf8 c.symbol-symbol.ensures c.symbol-symbol.utf8) c.cells.invariant.1,
      omega (arith, ap (λ (cs : List CellView). length cs) steps, c.cells.invariant.2),
    )

pub returns-clause-text : goal.returns-clause-text
returns-clause-text c =
    let written = c.in_ok-push_change-2.ensures ∙ ap (λ (l : Look). c.cells.pen ++ change c.cells.last l) c.plain.ensures in (
      row-end c.cells.pen _ c.cells.last c.cells.blanks _ c.in_default.ensures.steps.0 written ∙ c.cells.invariant.0,
      sym c.cells.invariant.1.bad ∙ ap (list_any is_bad) c.in_default.ensures.steps.0,
    )

pub returns-clause-colors : goal.returns-clause-colors
returns-clause-colors c = sym c.cells.invariant.1.bytes ∙ ap (list_all is_byte_cell) c.in_default.ensures.steps.0

pub returns-clause-symbols : goal.returns-clause-symbols
returns-clause-symbols c = sym c.cells.invariant.1.texts ∙ ap (list_all is_text_cell) c.in_default.ensures.steps.0
