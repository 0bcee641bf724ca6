use Rattle.std.proofs.Common.{length, drop, ◌-◌, ◌+◌, ◌≡◌, ◌≤◌}
use Rattle.md_rules.specs.Html.{html_rest}
use Rattle.md_rules.proofs.html.HtmlEnd.html_more.Given as goal

abbrev pub invariant-loop-at : goal.invariant-loop-at
invariant-loop-at l = (l.at ≤ length l.later) × (l.at + html_rest l.self (drop l.at l.later) ≡ html_rest l.self l.later)

abbrev pub decreases-loop-at : goal.decreases-loop-at
decreases-loop-at l = length l.later - l.at
