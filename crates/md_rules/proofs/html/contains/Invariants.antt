use Rattle.std.proofs.Common.{length, ◌≡◌}
use Rattle.std.specs.List.{list_any}
use Rattle.md_rules.specs.Html.{begins_same, contains}
use Rattle.md_rules.proofs.html.contains.Given as goal

abbrev pub invariant-loop-b : goal.invariant-loop-b
invariant-loop-b l =
    contains l.mark (λ bs. list_any (λ part. begins_same part.now bs) l.parts) l.rest ≡ contains l.mark (λ bs. list_any (λ part. begins_same part.now bs) l.parts) l.bytes

abbrev pub decreases-loop-b : goal.decreases-loop-b
decreases-loop-b l = length l.rest
