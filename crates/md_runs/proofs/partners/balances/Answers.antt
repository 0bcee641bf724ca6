use Rattle.std.proofs.Common.{ap, ◌∙◌, arith, ◌≡◌, ◌++◌, ◌∷◌, []}
use Rattle.std.specs.Prelude.{slice_get, length, ◌-◌}
use Rattle.md_runs.specs.Partners.{distance}
use Rattle.md_runs.proofs.Balance.{Matches-start, Matches-step, Matches-end}
use Rattle.md_runs.proofs.partners.balances.Goals as goal

pub loop-at-init : goal.loop-at-init
loop-at-init c = Matches-start _ _ _ c.new-unmatched.ensures.items c.new-found.ensures.items

pub loop-at-preserved : goal.loop-at-preserved
loop-at-preserved c =
    let last : c.distance.result ≡ distance c.loop-at.at (slice_get c.loop-at.unmatched.items (length c.loop-at.unmatched.items - 1)) =
    c.distance.ensures ∙ ap (distance c.loop-at.at) (cc) in
    Matches-step _ _ _ _ _ _ _ (omega arith) (c.in_ok-push.ensures.items ∙ ap (λ o. c.loop-at.found.items ++ o ∷ []) last) c.in_ok-note.ensures c.loop-at.invariant

pub returns : goal.returns
returns c = c.reverse.ensures.items ∙ Matches-end _ _ _ _ (omega arith) c.loop-at.invariant
