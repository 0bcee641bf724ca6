use Rattle.std.proofs.Common.{ap, sym, ◌≡◌, ◌∙◌, take, List, ℕ, get_or, ◌-◌, arith}
use Rattle.md_lines.specs.Blanks.{is_blank}
use Rattle.md_lines.proofs.BlankLemmas.{Trims-step, Trims-none, Trims-end}
use Rattle.md_lines.proofs.blanks.without_end_blanks.Goals as goal
use Rattle.md_lines.proofs.blanks.without_end_blanks.Goals.{then-loop-end-test+else-is_blank, else-loop-end-test}

pub loop-end-preserved : goal.loop-end-preserved
loop-end-preserved c = (
  c.loop-end.invariant.0,
  Trims-step c.args.text.now c.loop-end.end c.loop-end-test.true
      (ap (λ (x : List ℕ). is_blank (get_or x (c.loop-end.end - 1) 0)) (sym c.loop-end.invariant.0) ∙ (sym c.is_blank.ensures ∙ c.if-is_blank.true))
      c.loop-end.invariant.1,
)

pub returns-clause-value : goal.returns-clause-value
returns-clause-value c =
    let whole : c.loop-end.end - 0 ≡ c.loop-end.end = omega arith in
    c.range.ensures.value ∙ (ap (λ n. take n c.args.text.now) whole ∙ elim c.loop-end-test.branch [
      | then-loop-end-test+else-is_blank w ↦
          Trims-end c.args.text.now c.loop-end.end w.loop-end-test.true
          (ap (λ (x : List ℕ). is_blank (get_or x (c.loop-end.end - 1) 0)) (sym c.loop-end.invariant.0) ∙ (sym w.is_blank.ensures ∙ w.if-is_blank.false))
          c.loop-end.invariant.1
      | else-loop-end-test w ↦ Trims-none c.args.text.now c.loop-end.end (omega arith) c.loop-end.invariant.1
    ])
