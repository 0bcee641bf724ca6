use Rattle.std.proofs.Common.{◌≡◌, false, sym, ap, ◌∙◌}
use Rattle.term_core.specs.declared.rect.Rect.{Rect}
use Rattle.term_core.specs.Rect.{is_empty}
use Rattle.term_widgets.specs.Page.{PageView}
use Rattle.term_widgets.proofs.AreaLemmas.{intersection-within}
use Rattle.term_widgets.proofs.ParagraphLemmas.{page-drawn}
use Rattle.term_widgets.proofs.paragraph.draw_text.Goals as goal

pub draw-requires : goal.draw-requires
draw-requires c some =
    let empty : is_empty c.args.area ≡ false = sym c.is_empty.ensures ∙ c.if-is_empty.false in
    ap (λ (r : Rect). r.width) (intersection-within c.args.area c.args.buf.now.area empty c.requires)
    ∙ sym (ap (λ (p : PageView). p.width) c.in_ok-page.ensures.ok ∙ c.width.ensures)

pub returns-clause-ok : goal.returns-clause-ok
returns-clause-ok c =
    let empty : is_empty c.args.area ≡ false = sym c.is_empty.ensures ∙ c.if-is_empty.false in
    page-drawn c.args.area c.args.buf.now.area c.in_ok-page.page c.width.result c.args.text c.args.scroll c.args.buf.now c.draw.new.buf
    empty c.requires c.in_ok-page.ensures.ok c.width.ensures c.in_ok-draw.ensures.ok
