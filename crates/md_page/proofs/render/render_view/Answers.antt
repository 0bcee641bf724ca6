use Rattle.std.proofs.Common.{◌≡◌, true, false, ap, sym, ◌∙◌}
use Rattle.term_widgets.specs.Page.{PageView, page_rows}
use Rattle.md_page.proofs.Headline.{drawn_of}
use Rattle.md_page.proofs.render.render_view.Goals as goal

pub returns-in-Ok-draw_text-clause-rows : goal.returns-in-Ok-draw_text-clause-rows
returns-in-Ok-draw_text-clause-rows g c some = ap (λ (p : PageView). page_rows p) (drawn_of _ _ _ _ _ _ _ _ c.in-Ok.ensures.cases.0 (c.in-Ok-draw_text.ensures.drawn some)).page

pub returns-in-Ok-draw_text-clause-shown : goal.returns-in-Ok-draw_text-clause-shown
returns-in-Ok-draw_text-clause-shown g c some = (drawn_of _ _ _ _ _ _ _ _ c.in-Ok.ensures.cases.0 (c.in-Ok-draw_text.ensures.drawn some)).rows

pub returns-in-Ok-draw_text-clause-drawn : goal.returns-in-Ok-draw_text-clause-drawn
returns-in-Ok-draw_text-clause-drawn g c some = (drawn_of _ _ _ _ _ _ _ _ c.in-Ok.ensures.cases.0 (c.in-Ok-draw_text.ensures.drawn some)).cells

pub returns-in-Ok-draw_text-clause-page : goal.returns-in-Ok-draw_text-clause-page
returns-in-Ok-draw_text-clause-page g c some = (drawn_of _ _ _ _ _ _ _ _ c.in-Ok.ensures.cases.0 (c.in-Ok-draw_text.ensures.drawn some)).page

pub returns-in-Ok-draw_text-clause-fits : goal.returns-in-Ok-draw_text-clause-fits
returns-in-Ok-draw_text-clause-fits g c some = (drawn_of _ _ _ _ _ _ _ _ c.in-Ok.ensures.cases.0 (c.in-Ok-draw_text.ensures.drawn some)).fits

pub returns-in-Ok-draw_text-clause-too_narrow : goal.returns-in-Ok-draw_text-clause-too_narrow
returns-in-Ok-draw_text-clause-too_narrow g c narrow =
    let fits = (drawn_of _ _ _ _ _ _ _ _ c.in-Ok.ensures.cases.0 (c.in-Ok-draw_text.ensures.drawn narrow.some)).fits in
    let both : true ≡ false = sym narrow.wide ∙ fits in cc
