use Rattle.std.proofs.Common.{◌≡◌, ap, ◌∙◌}
use Rattle.term_core.specs.declared.rect.Rect.{Rect}
use Rattle.term_core.specs.Rect.{intersection}
use Rattle.md_page.proofs.Headline.{drawn_on}
use Rattle.md_page.proofs.render.draw_text.Goals as goal

pub returns-in-Ok-draw-clause-drawn : goal.returns-in-Ok-draw-clause-drawn
returns-in-Ok-draw-clause-drawn g c some =
    let is : c.intersection-cut.result ≡ intersection c.args.area c.args.buf.now.area =
    c.intersection-cut.ensures ∙ ap (λ (r : Rect). intersection c.args.area r) c.area.ensures.value in
    drawn_on _ _ _ _ _ _ _ _ (c.width.ensures ∙ ap (λ (r : Rect). r.width) is) c.in-Ok.ensures.ok c.in-Ok.ensures.fits c.in-Ok-draw.ensures.ok
    (c.in-Ok-draw.ensures.rows some)
