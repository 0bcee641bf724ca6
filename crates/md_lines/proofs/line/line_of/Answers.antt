use Rattle.std.proofs.Common.{arith, subst, sym, ◌≡◌, true}
use Rattle.term_text.specs.LineEnds.{is_one_line}
use Rattle.md_lines.proofs.LineLemmas.{Reads-start, Reads-step, blank_32, blank_9, is_one_line-drop}
use Rattle.md_lines.proofs.line.line_of.Goals as goal
use Rattle.md_lines.proofs.line.line_of.Goals.{in-32, in-9}

pub loop-at-init : goal.loop-at-init
loop-at-init c = (c.as_bytes-bytes.ensures.value, Reads-start _ c.utf8.text)

pub loop-at-preserved : goal.loop-at-preserved
loop-at-preserved c = (
  c.loop-at.invariant.0,
  elim c.match-bytes-at.branch [
    | in-32 w ↦ Reads-step _ _ _ _ _ 32 1 c.loop-at.invariant.0 c.utf8.text c.loop-at-test.true w.in-32.is w.indent-is (blank_32 _) (omega arith) (omega arith) c.loop-at.invariant.1
    | in-9 w ↦ Reads-step _ _ _ _ _ 9 4 c.loop-at.invariant.0 c.utf8.text c.loop-at-test.true w.in-9.is w.indent-is (blank_9 _) (omega arith) (omega arith) c.loop-at.invariant.1
  ],
)

pub invariant_of-result : goal.invariant_of-result
invariant_of-result c =
    (c.range_from.utf8, subst (λ x. is_one_line x ≡ true) (sym c.range_from.ensures.value) (is_one_line-drop c.loop-at.at c.args.text.now c.requires))
