use Rattle.std.proofs.Common.{get_or, ◌==◌, ◌&&◌, cond, ap, ◌∙◌}
use Rattle.std.specs.Prelude.{option_map}
use Rattle.std.proofs.Math.ListN.{set}
use Rattle.term_core.specs.Rect.{has_place}
use Rattle.term_core.specs.Cells.{CellView}
use Rattle.term_core.specs.Paint.{painted}
use Rattle.term_core.specs.Buffers.{BufferView, cell_at}
use Rattle.term_core.proofs.BufferLemmas.{cell_at-set}
use Rattle.term_core.proofs.StyleLemmas.{changed_there}
use Rattle.term_core.proofs.buffer.Buffer.paint.Goals as goal

pub returns-clause-cells : goal.returns-clause-cells
returns-clause-cells c p q =
    let s = c.self.inside in
    let x = c.args.x in
    let y = c.args.y in
    let inside = ap (λ (b : BufferView). has_place b.area x y) c.self.view_is ∙ c.requires in
    let styled = λ (d : CellView). painted c.args.paint d in
    ap (λ d. cell_at (record { area = s.area; cells = set s.cells.items c.place-place.result d }) p q) c.paint.ensures
    ∙ ap (λ k. cell_at (record { area = s.area; cells = set s.cells.items k (styled c.index_mut.result.now) }) p q) c.place-place.ensures.value
    ∙ cell_at-set s.area s.cells.items x y p q (styled c.index_mut.result.now) inside c.self.invariant
    ∙ changed_there styled s.area s.cells.items x y p q c.index_mut.result.now inside c.self.invariant
    (c.index_mut.ensures.value ∙ ap (λ k. get_or s.cells.items k c.index_mut.result.now) c.place-place.ensures.value)
    ∙ ap (λ (b : BufferView). cond ((p == x) && (q == y)) (option_map styled (cell_at b p q)) (cell_at b p q)) c.self.view_is
