use Rattle.std.proofs.Common.{◌≡◌, ◌+◌, ◌-◌, ◌++◌, ◌∷◌, [], length, replicate, ap, ap₂, sym, ◌∙◌, arith, append_assoc, append-nil, length-append}
use Rattle.std.proofs.lemmas.List.Sums.{sum_by-cons}
use Rattle.term_core.specs.Graph.{Grapheme, columns}
use Rattle.term_core.specs.Cells.{blank_cell, row_cells, cells, cell_of}
use Rattle.term_core.specs.Iter.{grapheme}
use Rattle.term_core.specs.Rows.{row_left, row_graphs}
use Rattle.term_text.proofs.CutLemmas.{width_some}
use Rattle.term_core.proofs.CellLemmas.{length-row_cells, length-cells}
use Rattle.term_widgets.proofs.RowLemmas.{AllShown-row_left, AllShown-row_graphs, row_cells-step}
use Rattle.term_widgets.proofs.cells.push_row.Goals as goal

pub overflow_sub-graph : goal.overflow_sub-graph
overflow_sub-graph c = width_some _ _ _ (AllShown-row_left c.graphs.rest) c.in-Some.ensures.steps

pub graphs-preserved : goal.graphs-preserved
graphs-preserved c =
    let g = grapheme c.in-Some.graph in
    let more : c.push_blanks.new.out.items ≡ (c.graphs.out.items ++ cell_of g ∷ []) ++ replicate (c.in-Some.graph.width - 1) blank_cell =
    c.in_ok-push_blanks.ensures
    ∙ ap (λ t. t ++ replicate (c.in-Some.graph.width - 1) blank_cell) (c.in_ok-push.ensures.items ∙ ap (λ x. c.graphs.out.items ++ x ∷ []) c.in_ok-first_cell.ensures) in
    let wide : columns (row_left c.graphs.rest) ≡ c.in-Some.graph.width + columns (row_left c.next.new.self) =
    ap columns c.in-Some.ensures.steps ∙ sum_by-cons (λ (x : Grapheme). x.width) g (row_left c.next.new.self) in (
      row_cells-step c.graphs.out.items _ g (row_left c.next.new.self) more
          ∙ ap (λ t. c.graphs.out.items ++ row_cells t) (sym c.in-Some.ensures.steps) ∙ c.graphs.invariant.0,
      omega arith,
    )

pub returns-clause-items : goal.returns-clause-items
unfolding row_cells
returns-clause-items c =
    let row = row_graphs c.args.row.now in
    let before : c.graphs.out.items ≡ c.args.out.now.items ++ row_cells row =
    sym (append-nil c.graphs.out.items) ∙ sym (ap (λ t. c.graphs.out.items ++ row_cells t) c.in_default.ensures.steps.0) ∙ c.graphs.invariant.0 in
    let none : columns (row_left c.graphs.rest) ≡ 0 = ap columns c.in_default.ensures.steps.0 in
    let room : c.graphs.room ≡ c.args.width - length (row_cells row) = omega (arith, length-row_cells row (AllShown-row_graphs c.args.row.now)) in
    c.in_ok-push_blanks-2.ensures
    ∙ ap₂ (λ t n. t ++ replicate n blank_cell) before room
    ∙ append_assoc c.args.out.now.items (row_cells row) (replicate (c.args.width - length (row_cells row)) blank_cell)

pub returns-clause-len : goal.returns-clause-len
returns-clause-len c =
    let row = row_graphs c.args.row.now in
    let items : c.push_blanks-2.new.out.items ≡ c.args.out.now.items ++ cells row c.args.width = returns-clause-items c in
    omega (arith, ap length items, length-append c.args.out.now.items (cells row c.args.width), length-cells row c.args.width (AllShown-row_graphs c.args.row.now) c.requires)
