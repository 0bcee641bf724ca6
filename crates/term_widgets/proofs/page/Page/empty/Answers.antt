use Rattle.std.proofs.Common.{ap, sym, ◌∙◌}
use Rattle.term_widgets.specs.Page.{row_counts, any_wider}
use Rattle.term_widgets.proofs.LineLemmas.{AllFit-none}
use Rattle.term_widgets.proofs.page.Page.empty.Goals as goal

pub invariant_of-result : goal.invariant_of-result
invariant_of-result c =
    (ap (any_wider 0) c.new.ensures ∙ AllFit-none 0, c.new-2.ensures ∙ sym (ap (row_counts 0) c.new.ensures))
