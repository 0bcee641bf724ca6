use Rattle.std.proofs.Common.{◌≡◌, ℕ, ◌+◌, ◌≤◌, true, false, ◌==◌, ◌&&◌, Some, None, refl, ap, ◌∙◌, arith}
use Rattle.std.proofs.Math.Nat.{le_antisymm}
use Rattle.term_core.specs.Buffers.{BufferView, cell_at}
use Rattle.term_core.specs.Rect.{has_place}
use Rattle.term_widgets.proofs.BlockLemmas.{symbol_set, column_begins, column_here, column_apart}
use Rattle.term_widgets.proofs.ChangeLemmas.{Changed, Changed-none, Changed-step, IsHere, changed, in_stretch}
use Rattle.term_widgets.proofs.block.draw_column.Goals as goal

pub column-init : goal.column-init
column-init c = Changed-none _ _ _ (column_begins c.args.y c.args.x)

pub column-preserved : goal.column-preserved
column-preserved c =
    Changed-step (symbol_set c.args.c) (symbol_set c.args.c) _ _ (λ p q. (p == c.args.x) && (q == c.column.at))
    c.args.buf.now c.column.buf c.draw_corner.new.buf c.column.invariant
    (λ p q e. (let tests = column_here c.args.y c.column.at c.args.x p q c.column.auto.at e in
    record { before = tests.0; after = tests.1; same = λ cell. refl }))
    (λ p q e. column_apart c.args.y c.column.at c.args.x p q e)
    c.draw_corner.ensures.area c.draw_corner.ensures.cells

pub draw_corner-requires : goal.draw_corner-requires
draw_corner-requires c = ap (λ r. has_place r c.args.x c.column.at) c.column.invariant.area ∙ c.requires.within c.column.at c.column.auto.at (omega arith)

pub returns-clause-area : goal.returns-clause-area
returns-clause-area c = c.column.invariant.area

pub returns-clause-cells : goal.returns-clause-cells
returns-clause-cells c p q =
    let end : c.column.at ≡ c.args.end = le_antisymm (c.column.auto.at-end c.requires.order) c.column-test.false in
    c.column.invariant.cells p q ∙ ap (λ k. changed ((p == c.args.x) && in_stretch c.args.y k q) (symbol_set c.args.c p q) (cell_at c.args.buf.now p q)) end
