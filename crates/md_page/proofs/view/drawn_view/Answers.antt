use Rattle.std.proofs.Common.{◌≡◌, ◌*◌, false, length, sym, ap, ap₂, subst, ◌∙◌, arith}
use Rattle.term_core.specs.Cells.{view}
use Rattle.term_core.specs.declared.rect.Rect.{Rect}
use Rattle.term_core.specs.Rect.{intersection, is_empty}
use Rattle.term_core.specs.Buffers.{BufferView}
use Rattle.term_widgets.specs.Page.{PageView, page_rows}
use Rattle.md_events.specs.Blocks.{tree}
use Rattle.md_text.specs.Layout.{document_lines}
use Rattle.md_text.specs.Look.{Look, look_of, default_look, knows_ansi, as_it_is}
use Rattle.md_page.specs.Shown.{IsDrawn, job_look, shown_rows, too_wide}
use Rattle.md_page.proofs.Showing.{job_look-options, width-same, height-same, whole_rows, has_no_cell-empty, page_rows-shown}
use Rattle.md_page.proofs.view.drawn_view.Goals as goal

pub returns : goal.returns
returns c =
    let job = c.args.job in
    let text = c.args.bytes.now in
    let area = c.new-area.result in
    let wide : area.width ≡ job.width = omega (arith, c.new-area.ensures.width, c.new-area.ensures.x) in
    let high : area.height ≡ job.height = omega (arith, c.new-area.ensures.height, c.new-area.ensures.y) in
    let old : BufferView = c.in-Ok-empty.buffer in
    let new : BufferView = c.draw_text.new.buf in
    let same : area ≡ old.area = ap (λ (b : BufferView). b.area) (sym c.in-Ok-empty.ensures) in
    let kept : new.area ≡ old.area = c.draw_text.ensures.area in
    let cut = intersection area old.area in
    let cut_wide : cut.width ≡ job.width = ap (λ r. (intersection area r).width) (sym same) ∙ width-same area ∙ wide in
    let cut_high : cut.height ≡ job.height = ap (λ r. (intersection area r).height) (sym same) ∙ height-same area ∙ high in
    let page : PageView = c.in-Ok-draw_text.page in
    let look : Look = look_of c.table_width-options.result (λ s. default_look.sheet) knows_ansi as_it_is in
    let same_look : look ≡ job_look job = job_look-options c.table_width-options.result c.default.result (record {}) job c.default.ensures c.table_width-options.ensures in
    let full : length new.cells ≡ new.area.height * new.area.width =
    subst (λ (b : BufferView). length b.cells ≡ b.area.height * b.area.width) c.buffer.view_is c.buffer.invariant in
    let drawn : is_empty cut ≡ false → IsDrawn look text cut job.scroll page old new =
    λ some. subst (λ t. IsDrawn look t cut job.scroll page old new) c.in-Ok.ensures.cases.0 (c.in-Ok-draw_text.ensures.drawn some) in
    let seen = whole_rows page area old new job.scroll (document_lines look (tree text)) full same kept
    c.in-Ok-draw_text.ensures.empty c.draw_text.ensures.untouched (λ some. (drawn some).page) (λ some. (drawn some).fits) (λ some. (drawn some).cells) in
    let rows : page_rows page ≡ shown_rows job text =
    page_rows-shown job text page cut cut_wide cut_high c.in-Ok-draw_text.ensures.empty
    (λ some. (drawn some).page ∙ ap (λ (l : Look). record { width = cut.width; lines = document_lines l (tree text) }) same_look) in
    let across : new.area.width ≡ job.width = ap (λ (r : Rect). r.width) (kept ∙ sym same) ∙ wide in
    let down : new.area.height ≡ job.height = ap (λ (r : Rect). r.height) (kept ∙ sym same) ∙ high in (
      record {
        utf8 = c.in-Ok.ensures.cases.1;
        fits = λ some. ap (λ (l : Look). too_wide l text job.width) (sym same_look) ∙ ap (too_wide look text) (sym cut_wide)
            ∙ (drawn (has_no_cell-empty job cut cut_wide cut_high ∙ some)).fits;
      },
      seen ∙ ap₂ (λ w h. view (page_rows page) w h job.scroll) across down ∙ ap (λ rs. view rs job.width job.height job.scroll) rows,
      c.len.ensures ∙ ap length rows,
    )
