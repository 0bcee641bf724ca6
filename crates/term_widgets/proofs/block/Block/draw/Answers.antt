use Rattle.std.proofs.Common.{◌≡◌, ◌+◌, ◌-◌, ◌==◌, ◌&&◌, cond, nat_le, ap, ap₂, ◌∙◌, arith}
use Rattle.std.specs.Prelude.{slice_get, option_map}
use Rattle.term_core.specs.Buffers.{BufferView, cell_at}
use Rattle.term_core.specs.Caption.{struck}
use Rattle.term_core.specs.Rect.{has_place}
use Rattle.term_widgets.specs.Block.{title_start}
use Rattle.term_widgets.proofs.BlockLemmas.{block-drawn, title_inside}
use Rattle.term_widgets.proofs.block.Block.draw.Goals as goal

pub write-requires : goal.write-requires
write-requires c i lt =
    ap₂ (λ x y. has_place c.draw_edge.new.buf.area (x + i) y) c.title_place-start.ensures.start c.y.ensures
    ∙ ap (λ r. has_place r (title_start c.args.self.now c.args.area + i) c.args.area.y) c.draw_edge.ensures.area
    ∙ c.requires.within (title_start c.args.self.now c.args.area + i) c.args.area.y (title_inside c.args.self.now.bordered c.args.area i c.requires.some (omega (arith, lt, c.requires.fits)))

pub returns-clause-cells : goal.returns-clause-cells
returns-clause-cells c =
    block-drawn c.args.self.now c.args.area c.args.title c.args.buf.now c.draw_edge.new.buf c.write.new.buf
    c.requires.some c.requires.title c.requires.fits c.draw_edge.ensures.cells
    (λ p q. c.write.ensures.cells p q
    ∙ ap₂ (λ x y. cond ((q == y) && nat_le x p) (option_map (struck (slice_get c.args.title (p - x))) (cell_at c.draw_edge.new.buf p q)) (cell_at c.draw_edge.new.buf p q))
    c.title_place-start.ensures.start c.y.ensures)
