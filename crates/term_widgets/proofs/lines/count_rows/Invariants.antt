use Rattle.std.proofs.Common.{◌≡◌, take}
use Rattle.term_widgets.specs.Page.{row_counts, AllFit}
use Rattle.term_widgets.proofs.lines.count_rows.Given as goal

abbrev pub invariant-loop-line : goal.invariant-loop-line
invariant-loop-line l =
    (l.index ≡ row_counts l.width (take l.line-index l.lines)) × AllFit l.width (take l.line-index l.lines)
