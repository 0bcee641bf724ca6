use Rattle.std.proofs.Common.{◌≡◌, ℕ, cond, ap, ◌∙◌, subst}
use Rattle.term_core.specs.declared.rect.Rect.{Rect}
use Rattle.term_core.specs.Buffers.{cell_at}
use Rattle.term_core.specs.Rect.{has_place, intersection}
use Rattle.term_widgets.specs.Paragraph.{ParagraphView, paragraph_cell}
use Rattle.term_widgets.proofs.AreaLemmas.{stays_outside}
use Rattle.term_widgets.proofs.ParagraphLemmas.{paragraph-rendered}
use Rattle.term_widgets.proofs.paragraph.ParagraphWidget.render.Goals as goal

pub returns-clause-ok : goal.returns-clause-ok
returns-clause-ok c x y =
    let part : Rect = intersection c.args.area c.args.buf.now.area in
    subst (λ (p : ParagraphView). cell_at c.draw.new.buf x y
    ≡ cond (has_place part x y) (paragraph_cell p part x y (cell_at c.args.buf.now x y)) (cell_at c.args.buf.now x y)) c.self.view_is
    (paragraph-rendered (record { text = c.self.inside.text; block = c.self.inside.block; scroll = c.self.inside.scroll })
    c.args.area c.args.buf.now.area c.intersection-cut.result c.inner-inner.result c.args.buf.now c.draw_text.new.buf c.draw.new.buf
    (c.intersection-cut.ensures ∙ ap (λ (s : Rect). intersection c.args.area s) c.area.ensures.value) c.inner-inner.ensures
    c.in_ok-draw_text.ensures.ok c.draw.ensures.cells x y)

pub returns-clause-outside : goal.returns-clause-outside
returns-clause-outside c =
    stays_outside c.args.area c.args.buf.now.area
    (λ x y. paragraph_cell c.args.self (intersection c.args.area c.args.buf.now.area) x y (cell_at c.args.buf.now x y))
    c.args.buf.now c.draw.new.buf (returns-clause-ok c)
