use Rattle.std.proofs.Common.{length, ap, ◌∙◌}
use Rattle.std.specs.List.{sum}
use Rattle.term_widgets.specs.Page.{PageView, page_rows}
use Rattle.term_widgets.proofs.RowPlaceLemmas.{sum-row_counts}
use Rattle.term_widgets.proofs.page.Page.len.Goals as goal

pub returns : goal.returns
returns c =
    c.total.ensures ∙ ap sum c.self.invariant.1 ∙ sum-row_counts c.self.inside.width c.self.inside.text
    ∙ ap (λ (p : PageView). length (page_rows p)) c.self.view_is
