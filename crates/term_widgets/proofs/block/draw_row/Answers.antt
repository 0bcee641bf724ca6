use Rattle.std.proofs.Common.{◌≡◌, ℕ, ◌+◌, ◌≤◌, true, false, ◌==◌, ◌&&◌, Some, None, refl, ap, ◌∙◌, arith}
use Rattle.std.proofs.Math.Nat.{le_antisymm}
use Rattle.term_core.specs.Buffers.{BufferView, cell_at}
use Rattle.term_core.specs.Rect.{has_place}
use Rattle.term_widgets.proofs.BlockLemmas.{symbol_set, row_begins, row_here, row_apart}
use Rattle.term_widgets.proofs.ChangeLemmas.{Changed, Changed-none, Changed-step, IsHere, changed, in_stretch}
use Rattle.term_widgets.proofs.block.draw_row.Goals as goal

pub row-init : goal.row-init
row-init c = Changed-none _ _ _ (row_begins c.args.x c.args.y)

pub row-preserved : goal.row-preserved
row-preserved c =
    Changed-step (symbol_set c.args.c) (symbol_set c.args.c) _ _ (λ p q. (p == c.row.at) && (q == c.args.y))
    c.args.buf.now c.row.buf c.draw_corner.new.buf c.row.invariant
    (λ p q e. (let tests = row_here c.args.x c.row.at c.args.y p q c.row.auto.at e in
    record { before = tests.0; after = tests.1; same = λ cell. refl }))
    (λ p q e. row_apart c.args.x c.row.at c.args.y p q e)
    c.draw_corner.ensures.area c.draw_corner.ensures.cells

pub draw_corner-requires : goal.draw_corner-requires
draw_corner-requires c = ap (λ r. has_place r c.row.at c.args.y) c.row.invariant.area ∙ c.requires.within c.row.at c.row.auto.at (omega arith)

pub returns-clause-area : goal.returns-clause-area
returns-clause-area c = c.row.invariant.area

pub returns-clause-cells : goal.returns-clause-cells
returns-clause-cells c p q =
    let end : c.row.at ≡ c.args.end = le_antisymm (c.row.auto.at-end c.requires.order) c.row-test.false in
    c.row.invariant.cells p q ∙ ap (λ k. changed (in_stretch c.args.x k p && (q == c.args.y)) (symbol_set c.args.c p q) (cell_at c.args.buf.now p q)) end
