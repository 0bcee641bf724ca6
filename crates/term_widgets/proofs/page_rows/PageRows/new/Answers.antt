use Rattle.std.proofs.Common.{refl}
use Rattle.term_widgets.specs.PageRows.{later_rows, page_left}
use Rattle.term_widgets.proofs.LineLemmas.{AllFit-drop}
use Rattle.term_widgets.proofs.page_rows.PageRows.new.Goals as goal

pub invariant_of-result : goal.invariant_of-result
invariant_of-result c = record { all_fit = AllFit-drop c.args.width c.args.place c.args.lines.now c.requires }

pub returns : goal.returns
unfolding page_left later_rows
returns c = refl
