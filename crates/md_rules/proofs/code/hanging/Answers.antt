use Rattle.std.proofs.Common.{nat_le, ap, sym, ◌∙◌, arith}
use Rattle.md_lines.specs.Lines.{LineText, is_empty}
use Rattle.md_rules.proofs.CodeLemmas.{deep-step, empty-step, end-stop, shallow-stop}
use Rattle.md_rules.proofs.code.hanging.Goals as goal

pub loop-at-preserved-then-is_empty : goal.loop-at-preserved-then-is_empty
loop-at-preserved-then-is_empty c =
    record {
      order = omega arith;
      within = omega arith;
      so_far = empty-step c.args.column c.args.lines.now c.loop-at.taken c.loop-at.at c.index-lines-at.result _ c.loop-at-test.true
          (ap is_empty (sym c.index-lines-at.is) ∙ (sym c.is_empty.ensures ∙ c.if-is_empty.true)) c.loop-at.invariant.so_far;
    }

pub loop-at-preserved : goal.loop-at-preserved
loop-at-preserved c =
    record {
      order = omega arith;
      within = omega arith;
      so_far = deep-step c.args.column c.args.lines.now c.loop-at.taken c.loop-at.at c.index-lines-at.result _ c.loop-at-test.true
          (ap is_empty (sym c.index-lines-at.is) ∙ (sym c.is_empty.ensures ∙ c.if-is_empty.false))
          (ap (λ (l : LineText). nat_le c.args.column l.indent) (sym c.index-lines-at.is) ∙ (sym c.reaches.ensures ∙ c.if-not-reaches.false)) c.loop-at.invariant.so_far;
    }

pub returns-after-loop-at-clause-value : goal.returns-after-loop-at-clause-value
returns-after-loop-at-clause-value c = end-stop c.args.column c.args.lines.now c.loop-at.taken c.loop-at.at _ c.loop-at-test.false c.loop-at.invariant.so_far

pub returns-then-not-reaches-clause-value : goal.returns-then-not-reaches-clause-value
returns-then-not-reaches-clause-value c =
    shallow-stop c.args.column c.args.lines.now c.loop-at.taken c.loop-at.at c.index-lines-at.result _ c.loop-at-test.true
    (ap is_empty (sym c.index-lines-at.is) ∙ (sym c.is_empty.ensures ∙ c.if-is_empty.false))
    (ap (λ (l : LineText). nat_le c.args.column l.indent) (sym c.index-lines-at.is) ∙ (sym c.reaches.ensures ∙ c.if-not-reaches.true)) c.loop-at.invariant.so_far
