use Rattle.std.proofs.Common.{◌++◌, ap, sym, ◌∙◌, append_assoc, append-nil}
use Rattle.term_core.specs.VisitedIter.{visited_left}
use Rattle.view_print.specs.Print.{symbols}
use Rattle.view_print.proofs.PrintLemmas.{symbols-none, symbols-cons}
use Rattle.view_print.proofs.print.push_symbols.Goals as goal

pub cells-preserved : goal.cells-preserved
cells-preserved c =
    let rest = symbols (visited_left c.next.new.self) in
    let cell = c.in-Some.cell.now in
    let bytes = c.as_bytes.ensures.value ∙ c.symbol.ensures in
    ap (λ t. t ++ rest) (c.in_ok-extend_from_slice.ensures.items ∙ ap (λ t. c.cells.out.items ++ t) bytes)
    ∙ append_assoc c.cells.out.items cell.symbol rest
    ∙ ap (λ t. c.cells.out.items ++ t) (sym (ap symbols c.in-Some.ensures.steps ∙ symbols-cons cell (visited_left c.next.new.self)))
    ∙ c.cells.invariant

pub returns : goal.returns
returns c =
    sym (append-nil c.cells.out.items)
    ∙ sym (ap (λ t. c.cells.out.items ++ t) (ap symbols c.in_default.ensures.steps.0 ∙ symbols-none))
    ∙ c.cells.invariant
