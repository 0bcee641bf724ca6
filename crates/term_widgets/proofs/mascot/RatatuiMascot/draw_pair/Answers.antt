use Rattle.std.proofs.Common.{cond, ◌==◌, ◌&&◌, sym, ap, ◌∙◌}
use Rattle.std.specs.Prelude.{option_map}
use Rattle.term_core.specs.Buffers.{cell_at}
use Rattle.term_widgets.specs.Mascot.{with_paint}
use Rattle.term_widgets.proofs.mascot.RatatuiMascot.draw_pair.Goals as goal

pub returns-in-Some-clause-cells : goal.returns-in-Some-clause-cells
returns-in-Some-clause-cells c p q =
    c.paint.ensures.cells p q
    ∙ ap (λ o. cond ((p == c.args.x) && (q == c.args.y)) (option_map (with_paint o) (cell_at c.args.buf.now p q)) (cell_at c.args.buf.now p q))
    (sym c.in-Some.is ∙ c.pair_paint.ensures)
