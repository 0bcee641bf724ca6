use Rattle.std.proofs.Common.{◌≡◌, ◌++◌, ◌∷◌, [], ◌-◌, ℕ, length, take, ap, ◌∙◌, arith}
use Rattle.std.specs.Prelude.{string_bytes}
use Rattle.std.proofs.lemmas.Bool.Decides.{nat_tests}
use Rattle.md_runs.proofs.CodeLemmas.{spaced-step, spaced-end, spaced-none}
use Rattle.md_runs.proofs.code.spaced.Goals as goal
use Rattle.md_runs.proofs.code.spaced.Goals.{else-loop-rest-test, then-loop-rest-test+in_ok-push_str+then-end-rest}

whole : (n : ℕ) → n - 0 ≡ n
whole n = omega arith

pub loop-rest-preserved : goal.loop-rest-preserved
loop-rest-preserved c = (
  c.range_from-rest.utf8,
  spaced-step _ _ _ _ _ _ _ c.first_line_end-end.ensures.first c.first_line_end-end.ensures.within c.if-end-rest.false c.range_from-rest.ensures.value (c.range.ensures.value ∙ ap (λ n. take n c.loop-rest.rest.now) (whole c.first_line_end-end.result))
      (c.in_ok-push.ensures.bytes ∙ (ap (λ x. string_bytes c.push_str.new.self ++ x) (c.in_ok-push.ensures.ascii (omega arith)) ∙ ap (λ x. x ++ 32 ∷ []) c.in_ok-push_str.ensures.bytes)) c.loop-rest.invariant.1,
)

pub returns : goal.returns
returns c =
    elim c.loop-rest-test.branch [
      | else-loop-rest-test w ↦
          let none : length c.loop-rest.rest.now ≡ 0 = grind (arith, nat_tests, w.loop-rest-test.ensures) in
          ap string_bytes w.joined-is ∙ spaced-none _ _ _ none c.loop-rest.invariant.1
      | then-loop-rest-test+in_ok-push_str+then-end-rest w ↦
          ap string_bytes w.joined-is ∙ spaced-end _ _ _ _ _ _ w.first_line_end-end.ensures.first w.if-end-rest.true (w.range.ensures.value ∙ ap (λ n. take n c.loop-rest.rest.now) (whole w.first_line_end-end.result)) w.in_ok-push_str.ensures.bytes c.loop-rest.invariant.1
    ]
