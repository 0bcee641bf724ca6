use Rattle.std.proofs.Common.{rules, ℕ, ◌≤◌, ◌++◌, ◌∷◌, [], ap, sym, ◌∙◌, arith, ◌<◌, length}
use Rattle.std.proofs.lemmas.List.{length-take-le}
use Rattle.md_runs.proofs.Balance.{length-balances}
use Rattle.md_runs.proofs.PartSteps.{group-turn, single-turn, so_far-step, group-within}
use Rattle.md_runs.proofs.part.parts.Goals as goal

pub bounds-closers-at : goal.bounds-closers-at
bounds-closers-at c = let n = ap length c.loop-at.invariant.closers ∙ length-balances c.args.leaves.now in omega arith

pub slice_bounds-push-end : goal.slice_bounds-push-end
slice_bounds-push-end c = let w = group-within _ _ _ _ _ (sym c.in-Some.ensures) in sym (length-take-le _ _ (le w))
  where
    le : {m n : ℕ} → m < n → m ≤ n
    le h = omega arith

pub overflow_add-at : goal.overflow_add-at
overflow_add-at c = let t = group-turn _ _ _ _ _ _ _ c.loop-at-test.true c.loop-at.invariant.closers (sym c.in-Some.ensures) in let within = t.within in search (rules, within)

pub overflow_add-at-in-Some : goal.overflow_add-at-in-Some
overflow_add-at-in-Some c = let t = group-turn _ _ _ _ _ _ _ c.loop-at-test.true c.loop-at.invariant.closers (sym c.in-Some.ensures) in let within = t.within in search (rules, within)

pub loop-at-preserved-in-Some : goal.loop-at-preserved-in-Some
loop-at-preserved-in-Some c =
    let t = group-turn _ _ _ _ _ _ _ c.loop-at-test.true c.loop-at.invariant.closers (sym c.in-Some.ensures) in
    record {
      within = t.within;
      closers = c.loop-at.invariant.closers;
      so_far = so_far-step _ _ _ _ _ _ _ c.in_ok-push-in-Some.ensures.items t c.loop-at.invariant.so_far;
    }

pub loop-at-preserved : goal.loop-at-preserved
loop-at-preserved c =
    let t = single-turn _ _ _ _ _ _ c.loop-at-test.true c.loop-at.invariant.closers (sym c.in-None.ensures) in
    record {
      within = t.within;
      closers = c.loop-at.invariant.closers;
      so_far = so_far-step _ _ _ _ _ _ _ (c.in_ok-push-in-None.ensures.items ∙ ap (λ p. c.loop-at.parts.items ++ p ∷ []) c.single.ensures) t c.loop-at.invariant.so_far;
    }
