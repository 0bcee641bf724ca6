use Rattle.std.proofs.Common.{◌≡◌, ◌+◌, ◌-◌, ◌<◌, ◌≤◌, drop, length, ap, ap₂, subst, ◌∙◌, arith}
use Rattle.std.specs.Prelude.{min}
use Rattle.term_widgets.specs.Cuts.{IsHalving}
use Rattle.term_widgets.specs.Page.{PageView, line_counts, page_rows, row_counts, rows_of}
use Rattle.term_widgets.specs.PageRows.{page_left}
use Rattle.term_widgets.specs.RowPlace.{line_of, rows_above}
use Rattle.term_widgets.proofs.CutsLemmas.{noted-row, on_err, up_to}
use Rattle.term_widgets.proofs.RowLemmas.{Drawn-none, Drawn-more, Narrows, narrows-rows_of}
use Rattle.term_widgets.proofs.RowPlaceLemmas.{notes_above, probes_of, rows_from-place, unprobed_of}
use Rattle.term_widgets.proofs.page.Page.cells.Goals as goal

pub rows-init : goal.rows-init
rows-init g c =
    let s = c.self.inside in
    let page = c.args.self.now in
    let counts : s.index ≡ row_counts s.width s.text = c.self.invariant.1 in
    let is : rows_of s.width s.text ≡ page_rows page = ap (λ (p : PageView). page_rows p) c.self.view_is in
    let above : c.find-place.result.above ≡ rows_above (row_counts s.width s.text) c.args.scroll =
    c.find-place.ensures.above ∙ ap (λ t. rows_above t c.args.scroll) counts in
    let line : c.find-place.result.line ≡ line_of (row_counts s.width s.text) c.args.scroll =
    c.find-place.ensures.line ∙ ap (λ t. line_of t c.args.scroll) counts in
    let whole : page_left c.new-rest.result ≡ rows_of s.width (drop (line_of (row_counts s.width s.text) c.args.scroll) s.text) =
    c.new-rest.ensures ∙ ap₂ (λ n t. rows_of s.width (drop n t)) line c.lines.ensures in
    let rest : page_left c.pass.new.self ≡ drop c.args.scroll (page_rows page) =
    c.pass.ensures.rest ∙ ap₂ (λ n t. drop n t) above whole ∙ rows_from-place s.width s.text c.args.scroll ∙ ap (drop c.args.scroll) is in
    record {
      drawn = Drawn-none s.width (page_rows page) c.args.scroll (page_left c.pass.new.self) c.in_ok-out.out.items
          (subst (Narrows s.width) is (narrows-rows_of s.width s.text c.self.invariant.0)) rest c.in_ok-out.ensures.items;
      ticks = subst (λ (p : PageView). g.L.Ledger.noted (rows_above (line_counts p) c.args.scroll + min 0 (length (page_rows p) - c.args.scroll))
          c.args.cuts.now c.pass.new.steps) c.self.view_is
          (notes_above g.L.Ledger.noted _ _ s.width s.text c.args.scroll c.find-place.result.above
          (length (rows_of s.width s.text) - c.args.scroll) (page_left c.new-rest.result) above whole c.pass.ensures.ticks);
    }

pub rows-preserved : goal.rows-preserved
rows-preserved g c =
    let page = c.args.self.now in
    record {
      drawn = Drawn-more _ _ _ _ _ _ c.next_row-row.result c.rows.out.items c.push_row_or_blanks.new.out.items
          c.rows.invariant.drawn c.next_row-row.ensures.row c.in_ok-push_row_or_blanks.ensures.items c.in_ok-push_row_or_blanks.ensures.len;
      ticks = noted-row g.L.Ledger.noted g.met.L.Ledger.noted_sum _ _ _ (rows_above (line_counts page) c.args.scroll) c.args.scroll c.rows.i
          (page_rows page) _ _ c.next_row-row.result c.next_row-row.ensures.row c.rows.invariant.drawn.rest c.rows.invariant.ticks
          c.next_row-row.ensures.ticks;
    }

pub returns-in_err-out-clause-most : goal.returns-in_err-out-clause-most
returns-in_err-out-clause-most g c =
    let s = c.self.inside in
    let page = c.args.self.now in
    let counts : s.index ≡ row_counts s.width s.text = c.self.invariant.1 in
    let above : c.find-place.result.above ≡ rows_above (row_counts s.width s.text) c.args.scroll =
    c.find-place.ensures.above ∙ ap (λ t. rows_above t c.args.scroll) counts in
    let line : c.find-place.result.line ≡ line_of (row_counts s.width s.text) c.args.scroll =
    c.find-place.ensures.line ∙ ap (λ t. line_of t c.args.scroll) counts in
    let whole : page_left c.new-rest.result ≡ rows_of s.width (drop (line_of (row_counts s.width s.text) c.args.scroll) s.text) =
    c.new-rest.ensures ∙ ap₂ (λ n t. rows_of s.width (drop n t)) line c.lines.ensures in
    on_err c.from_residual.result (up_to g.L.Ledger.noted c.args.cuts.now c.pass.new.steps (rows_above (line_counts page) c.args.scroll) 0 c.args.height
    (length (page_rows page) - c.args.scroll) (omega arith)
    (subst (λ (p : PageView). g.L.Ledger.noted (rows_above (line_counts p) c.args.scroll + min 0 (length (page_rows p) - c.args.scroll))
    c.args.cuts.now c.pass.new.steps) c.self.view_is
    (notes_above g.L.Ledger.noted _ _ s.width s.text c.args.scroll c.find-place.result.above
    (length (rows_of s.width s.text) - c.args.scroll) (page_left c.new-rest.result) above whole c.pass.ensures.ticks)))

pub returns-in_err-push_row_or_blanks-clause-most : goal.returns-in_err-push_row_or_blanks-clause-most
returns-in_err-push_row_or_blanks-clause-most g c =
    let page = c.args.self.now in
    on_err c.from_residual-in_err-push_row_or_blanks.result (up_to g.L.Ledger.noted _ _ (rows_above (line_counts page) c.args.scroll) (c.rows.i + 1)
    c.args.height (length (page_rows page) - c.args.scroll) (omega arith)
    (noted-row g.L.Ledger.noted g.met.L.Ledger.noted_sum _ _ _ (rows_above (line_counts page) c.args.scroll) c.args.scroll c.rows.i
    (page_rows page) _ _ c.next_row-row.result c.next_row-row.ensures.row c.rows.invariant.drawn.rest c.rows.invariant.ticks
    c.next_row-row.ensures.ticks))

pub returns-in_err-out-clause-probes : goal.returns-in_err-out-clause-probes
returns-in_err-out-clause-probes g c =
    subst (λ (p : PageView). c.args.scroll < length (page_rows p)
    → IsHalving g.L.Ledger.noted (length p.lines) c.args.probes.now c.find-place.new.probes) c.self.view_is
    (probes_of g.L.Ledger.noted _ _ c.self.inside.width c.self.inside.text c.self.inside.index c.args.scroll c.self.invariant.1
    c.find-place.ensures.probes)

pub returns-in_err-out-clause-unprobed : goal.returns-in_err-out-clause-unprobed
returns-in_err-out-clause-unprobed g c =
    subst (λ (p : PageView). length (page_rows p) ≤ c.args.scroll → c.find-place.new.probes ≡ c.args.probes.now) c.self.view_is
    (unprobed_of c.self.inside.width c.self.inside.text c.self.inside.index c.args.scroll c.self.invariant.1 c.find-place.ensures.unprobed)

pub returns-in_err-push_row_or_blanks-clause-probes : goal.returns-in_err-push_row_or_blanks-clause-probes
returns-in_err-push_row_or_blanks-clause-probes g c =
    subst (λ (p : PageView). c.args.scroll < length (page_rows p)
    → IsHalving g.L.Ledger.noted (length p.lines) c.args.probes.now c.find-place.new.probes) c.self.view_is
    (probes_of g.L.Ledger.noted _ _ c.self.inside.width c.self.inside.text c.self.inside.index c.args.scroll c.self.invariant.1
    c.find-place.ensures.probes)

pub returns-in_err-push_row_or_blanks-clause-unprobed : goal.returns-in_err-push_row_or_blanks-clause-unprobed
returns-in_err-push_row_or_blanks-clause-unprobed g c =
    subst (λ (p : PageView). length (page_rows p) ≤ c.args.scroll → c.find-place.new.probes ≡ c.args.probes.now) c.self.view_is
    (unprobed_of c.self.inside.width c.self.inside.text c.self.inside.index c.args.scroll c.self.invariant.1 c.find-place.ensures.unprobed)

pub returns-clause-probes : goal.returns-clause-probes
returns-clause-probes g c =
    subst (λ (p : PageView). c.args.scroll < length (page_rows p)
    → IsHalving g.L.Ledger.noted (length p.lines) c.args.probes.now c.find-place.new.probes) c.self.view_is
    (probes_of g.L.Ledger.noted _ _ c.self.inside.width c.self.inside.text c.self.inside.index c.args.scroll c.self.invariant.1
    c.find-place.ensures.probes)

pub returns-clause-unprobed : goal.returns-clause-unprobed
returns-clause-unprobed g c =
    subst (λ (p : PageView). length (page_rows p) ≤ c.args.scroll → c.find-place.new.probes ≡ c.args.probes.now) c.self.view_is
    (unprobed_of c.self.inside.width c.self.inside.text c.self.inside.index c.args.scroll c.self.invariant.1 c.find-place.ensures.unprobed)
