use Rattle.std.proofs.Common.{◌+◌, sym, ◌∙◌, arith, refl}
use Rattle.md_leaves.proofs.PlainLemmas.{Reads-next, Reads-stop, balanced-past, balanced-bar, balanced-closed}
use Rattle.md_leaves.proofs.closer.plain_length.Goals as goal

pub loop-at-preserved-then-level-eq0 : goal.loop-at-preserved-then-level-eq0
loop-at-preserved-then-level-eq0 c =
    Reads-next c.args.bytes.now c.loop-at.at c.loop-at.level c.in-Some.next c.loop-at.end (c.loop-at.at + 1) c.loop-at-test.true
    (sym c.at_bar.ensures ∙ c.if-not-at_bar.true) (sym c.level_after.ensures ∙ c.in-Some.is)
    (record { closed = λ e. refl; opened = λ some. absurd (omega (arith, c.if-level-eq0.true)) })
    c.loop-at.invariant

pub loop-at-preserved : goal.loop-at-preserved
loop-at-preserved c =
    Reads-next c.args.bytes.now c.loop-at.at c.loop-at.level c.in-Some.next c.loop-at.end c.loop-at.end c.loop-at-test.true
    (sym c.at_bar.ensures ∙ c.if-not-at_bar.true) (sym c.level_after.ensures ∙ c.in-Some.is)
    (record { closed = λ e. absurd (c.if-level-eq0.false e); opened = λ some. refl })
    c.loop-at.invariant

pub returns-else-not-at_bar-clause-value : goal.returns-else-not-at_bar-clause-value
returns-else-not-at_bar-clause-value c =
    Reads-stop c.args.bytes.now c.loop-at.at c.loop-at.level c.loop-at.end
    (balanced-bar c.args.bytes.now c.loop-at.at c.loop-at.level c.loop-at-test.true (sym c.at_bar.ensures ∙ c.if-not-at_bar.false)) c.loop-at.invariant

pub returns-after-loop-at-clause-value : goal.returns-after-loop-at-clause-value
returns-after-loop-at-clause-value c =
    Reads-stop c.args.bytes.now c.loop-at.at c.loop-at.level c.loop-at.end
    (balanced-past c.args.bytes.now c.loop-at.at c.loop-at.level c.loop-at-test.false) c.loop-at.invariant

pub returns-in-None-clause-value : goal.returns-in-None-clause-value
returns-in-None-clause-value c =
    Reads-stop c.args.bytes.now c.loop-at.at c.loop-at.level c.loop-at.end
    (balanced-closed c.args.bytes.now c.loop-at.at c.loop-at.level c.loop-at-test.true (sym c.at_bar.ensures ∙ c.if-not-at_bar.true) (sym c.level_after.ensures ∙ c.in-None.is))
    c.loop-at.invariant
