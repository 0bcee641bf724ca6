use Rattle.std.proofs.Common.{◌≡◌, ℕ, ◌-◌, cond, refl, ap, ◌∙◌, arith, subst}
use Rattle.std.specs.Prelude.{option_map}
use Rattle.term_core.specs.declared.rect.Rect.{Rect}
use Rattle.term_core.specs.Buffers.{cell_at}
use Rattle.term_core.specs.Rect.{has_place, intersection}
use Rattle.term_widgets.specs.Mascot.{mascot_cell}
use Rattle.term_widgets.proofs.MascotLemmas.{RowsDrawn-none, RowsDrawn-step, mascot-drawn}
use Rattle.term_widgets.proofs.mascot.RatatuiMascotWidget.render.Goals as goal

pub rows-init : goal.rows-init
rows-init c = RowsDrawn-none c.args.self.eye c.intersection-cut.result 0 c.args.buf.now refl

pub rows-preserved : goal.rows-preserved
rows-preserved c =
    RowsDrawn-step c.args.self.eye c.intersection-cut.result c.rows.row c.args.buf.now c.rows.buf c.draw_row.new.buf
    c.rows.invariant c.draw_row.ensures.area c.draw_row.ensures.cells

pub returns-clause-cells : goal.returns-clause-cells
returns-clause-cells c =
    let whole : c.intersection-cut.result ≡ intersection c.args.area c.args.buf.now.area = c.intersection-cut.ensures ∙ ap (λ (s : Rect). intersection c.args.area s) c.area.ensures.value in
    subst (λ (cut : Rect). (x y : ℕ) → cell_at c.rows.buf x y
    ≡ cond (has_place cut x y) (option_map (mascot_cell c.args.self.eye (x - cut.x) (y - cut.y)) (cell_at c.args.buf.now x y)) (cell_at c.args.buf.now x y)) whole
    (mascot-drawn c.args.self.eye c.intersection-cut.result c.rows.row c.args.buf.now c.rows.buf (λ below. omega arith) c.rows.invariant)
