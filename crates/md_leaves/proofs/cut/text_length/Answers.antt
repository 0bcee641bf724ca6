use Rattle.std.proofs.Common.{◌≡◌, ◌+◌, ◌∙◌, ℕ, List, ap, arith, drop, length, length-drop}
use Rattle.std.proofs.lemmas.List.{drop-drop}
use Rattle.md_leaves.specs.Leaves.{text_length}
use Rattle.md_leaves.specs.Steps.{text_step}
use Rattle.md_leaves.proofs.TextLemmas.{IsStep, text_step-at, text_length-end}
use Rattle.md_leaves.proofs.cut.text_length.Goals as goal
use Rattle.md_leaves.proofs.cut.text_length.Goals.{else-loop-at-test, then-loop-at-test+then-more-eq0}

pub loop-at-preserved : goal.loop-at-preserved
loop-at-preserved c =
    let source : List ℕ = c.args.source.now in
    let at : ℕ = c.loop-at.at in
    let more : ℕ = c.text_step-more.result in
    let step : IsStep source at (drop at source) more = text_step-at source at more c.loop-at-test.true (c.text_step-more.ensures.value ∙ ap text_step c.rest_of.ensures) in
    let goes : text_length source at (drop at source) ≡ more + text_length source (at + more) (drop (at + more) source) = step.goes ∙ ap (λ x. more + text_length source (at + more) x) (drop-drop more at source) in
    record {
      order = omega arith;
      within = omega (arith, length-drop at source, ap length c.rest_of.ensures, c.text_step-more.ensures.within);
      length = omega (arith, goes, c.loop-at.invariant.length, c.loop-at.invariant.order);
    }

pub returns-clause-value : goal.returns-clause-value
returns-clause-value c =
    let source : List ℕ = c.args.source.now in
    let at : ℕ = c.loop-at.at in
    let none : text_length source at (drop at source) ≡ 0 = elim c.loop-at-test.branch [
      | else-loop-at-test w ↦ text_length-end source at w.loop-at-test.false
      | then-loop-at-test+then-more-eq0 w ↦ (text_step-at source at w.text_step-more.result w.loop-at-test.true (w.text_step-more.ensures.value ∙ ap text_step w.rest_of.ensures)).stops w.if-more-eq0.true
    ] in
    omega (arith, none, c.loop-at.invariant.length)
