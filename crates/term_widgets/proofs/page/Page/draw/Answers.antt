use Rattle.std.proofs.Common.{◌≡◌, true, false, cond, ap, ap₂, sym, subst, ◌∙◌}
use Rattle.term_core.specs.BufferRows.{area_rows, cell_rows}
use Rattle.term_core.specs.Cells.{view}
use Rattle.term_core.specs.Lists.{joined}
use Rattle.term_core.specs.Rect.{intersection, is_empty}
use Rattle.term_core.specs.declared.rect.Rect.{Rect}
use Rattle.term_core.proofs.BufferRowsLemmas.{RowsTake, cell_rows-view}
use Rattle.term_widgets.specs.Cuts.{IsNotedUpTo, rows_cut}
use Rattle.term_widgets.specs.Page.{PageView, page_rows, AllFit}
use Rattle.term_widgets.proofs.CutsLemmas.{hides_part, le_of_test, lt_of_test, on_err, shows_parts}
use Rattle.term_widgets.proofs.PageLemmas.{RowsTake-rows_of}
use Rattle.term_widgets.proofs.page.Page.draw.Goals as goal

pub returns-then-is_empty-clause-cuts : goal.returns-then-is_empty-clause-cuts
returns-then-is_empty-clause-cuts g c =
    let is : c.intersection-cut.result ≡ intersection c.args.area c.args.buf.now.area =
    c.intersection-cut.ensures ∙ ap (λ (r : Rect). intersection c.args.area r) c.area.ensures.value in
    let none : true ≡ is_empty (intersection c.args.area c.args.buf.now.area) = c.if-is_empty.ensures ∙ ap (λ (r : Rect). is_empty r) is in
    subst (λ b. g.L.Ledger.noted (cond b 0 (rows_cut c.args.self.now (intersection c.args.area c.args.buf.now.area).height c.args.scroll)) c.args.cuts.now c.args.cuts.now) none
    (g.met.L.Ledger.noted_none _)

pub returns-in_err-made-clause-most : goal.returns-in_err-made-clause-most
returns-in_err-made-clause-most g c =
    let is : c.intersection-cut.result ≡ intersection c.args.area c.args.buf.now.area =
    c.intersection-cut.ensures ∙ ap (λ (r : Rect). intersection c.args.area r) c.area.ensures.value in
    let some : false ≡ is_empty (intersection c.args.area c.args.buf.now.area) = c.if-is_empty.ensures ∙ ap (λ (r : Rect). is_empty r) is in
    on_err c.from_residual.result (subst (λ b. IsNotedUpTo g.L.Ledger.noted (cond b 0 (rows_cut c.args.self.now (intersection c.args.area c.args.buf.now.area).height c.args.scroll)) c.args.cuts.now c.cells.new.cuts) some
    (subst (λ h. IsNotedUpTo g.L.Ledger.noted (rows_cut c.args.self.now h c.args.scroll) c.args.cuts.now c.cells.new.cuts) (c.height.ensures ∙ ap (λ (r : Rect). r.height) is) c.in_err-made.ensures.most))

pub returns-in_err-made-clause-empty : goal.returns-in_err-made-clause-empty
returns-in_err-made-clause-empty g c none =
    let is : c.intersection-cut.result ≡ intersection c.args.area c.args.buf.now.area =
    c.intersection-cut.ensures ∙ ap (λ (r : Rect). intersection c.args.area r) c.area.ensures.value in
    let both : false ≡ true = c.if-is_empty.ensures ∙ ap (λ (r : Rect). is_empty r) is ∙ none in cc

pub returns-clause-cuts : goal.returns-clause-cuts
returns-clause-cuts g c =
    let is : c.intersection-cut.result ≡ intersection c.args.area c.args.buf.now.area =
    c.intersection-cut.ensures ∙ ap (λ (r : Rect). intersection c.args.area r) c.area.ensures.value in
    let some : false ≡ is_empty (intersection c.args.area c.args.buf.now.area) = c.if-is_empty.ensures ∙ ap (λ (r : Rect). is_empty r) is in
    subst (λ b. g.L.Ledger.noted (cond b 0 (rows_cut c.args.self.now (intersection c.args.area c.args.buf.now.area).height c.args.scroll)) c.args.cuts.now c.cells.new.cuts) some
    (subst (λ h. g.L.Ledger.noted (rows_cut c.args.self.now h c.args.scroll) c.args.cuts.now c.cells.new.cuts) (c.height.ensures ∙ ap (λ (r : Rect). r.height) is) c.in_ok-made.ensures.ticks)

pub returns-clause-untouched : goal.returns-clause-untouched
returns-clause-untouched g c none =
    let is : c.intersection-cut.result ≡ intersection c.args.area c.args.buf.now.area =
    c.intersection-cut.ensures ∙ ap (λ (r : Rect). intersection c.args.area r) c.area.ensures.value in
    let both : false ≡ true = c.if-is_empty.ensures ∙ ap (λ (r : Rect). is_empty r) is ∙ none in cc

pub returns-clause-rows : goal.returns-clause-rows
returns-clause-rows g c some =
    let page : PageView = c.args.self.now in
    let cut : Rect = intersection c.args.area c.args.buf.now.area in
    let is : c.intersection-cut.result ≡ cut = c.intersection-cut.ensures ∙ ap (λ (r : Rect). intersection c.args.area r) c.area.ensures.value in
    let wide : cut.width ≡ page.width = c.requires some in
    let items : c.in_ok-made.made.items ≡ joined (view (page_rows page) cut.width cut.height c.args.scroll) =
    c.in_ok-made.ensures.items
    ∙ ap₂ (λ w h. joined (view (page_rows page) w h c.args.scroll)) (sym wide) (c.height.ensures ∙ ap (λ (r : Rect). r.height) is) in
    let fits : AllFit page.width page.lines = c.in_ok-made.ensures.fits in
    ap (area_rows c.put.new.self) (sym is) ∙ c.put.ensures.rows ∙ ap₂ (λ (r : Rect) cs. cell_rows r.width r.height cs) is items
    ∙ cell_rows-view (page_rows page) cut.width cut.height c.args.scroll
    (subst (λ w. RowsTake w (page_rows page)) (sym wide) (RowsTake-rows_of page.width page.lines fits))

pub returns-then-is_empty-clause-probes : goal.returns-then-is_empty-clause-probes
returns-then-is_empty-clause-probes g c shows =
    let is : c.intersection-cut.result ≡ intersection c.args.area c.args.buf.now.area =
    c.intersection-cut.ensures ∙ ap (λ (r : Rect). intersection c.args.area r) c.area.ensures.value in
    let none : true ≡ is_empty (intersection c.args.area c.args.buf.now.area) = c.if-is_empty.ensures ∙ ap (λ (r : Rect). is_empty r) is in
    absurd (let both = none ∙ (shows_parts (is_empty (intersection c.args.area c.args.buf.now.area)) _ shows).0 in cc)

pub returns-in_err-made-clause-probes : goal.returns-in_err-made-clause-probes
returns-in_err-made-clause-probes g c shows =
    c.in_err-made.ensures.probes
    (lt_of_test _ _ (shows_parts (is_empty (intersection c.args.area c.args.buf.now.area)) _ shows).1)

pub returns-in_err-made-clause-unprobed : goal.returns-in_err-made-clause-unprobed
returns-in_err-made-clause-unprobed g c hides =
    let is : c.intersection-cut.result ≡ intersection c.args.area c.args.buf.now.area =
    c.intersection-cut.ensures ∙ ap (λ (r : Rect). intersection c.args.area r) c.area.ensures.value in
    let some : false ≡ is_empty (intersection c.args.area c.args.buf.now.area) = c.if-is_empty.ensures ∙ ap (λ (r : Rect). is_empty r) is in
    c.in_err-made.ensures.unprobed
    (le_of_test _ _ (hides_part (is_empty (intersection c.args.area c.args.buf.now.area)) _ (sym some) hides))

pub returns-clause-probes : goal.returns-clause-probes
returns-clause-probes g c shows =
    c.in_ok-made.ensures.probes
    (lt_of_test _ _ (shows_parts (is_empty (intersection c.args.area c.args.buf.now.area)) _ shows).1)

pub returns-clause-unprobed : goal.returns-clause-unprobed
returns-clause-unprobed g c hides =
    let is : c.intersection-cut.result ≡ intersection c.args.area c.args.buf.now.area =
    c.intersection-cut.ensures ∙ ap (λ (r : Rect). intersection c.args.area r) c.area.ensures.value in
    let some : false ≡ is_empty (intersection c.args.area c.args.buf.now.area) = c.if-is_empty.ensures ∙ ap (λ (r : Rect). is_empty r) is in
    c.in_ok-made.ensures.unprobed
    (le_of_test _ _ (hides_part (is_empty (intersection c.args.area c.args.buf.now.area)) _ (sym some) hides))
