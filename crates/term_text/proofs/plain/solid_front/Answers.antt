use Rattle.std.proofs.Common.{ℕ, List, refl, sym, subst, ◌∙◌, arith, rules, chars, zero-le}
use Rattle.term_text.specs.Solid.{SolidFront}
use Rattle.term_text.proofs.SolidLemmas.{SolidFront-more}
use Rattle.term_text.proofs.plain.solid_front.Goals as goal

pub loop-count-init : goal.loop-count-init
unfolding SolidFront
loop-count-init c = (c.utf8.text, refl, zero-le)

pub loop-count-preserved : goal.loop-count-preserved
loop-count-preserved c =
    let front = subst (λ (xs : List ℕ). SolidFront c.loop-count.count (chars c.args.text.now) xs) c.in-Some.ensures.0 c.loop-count.invariant.1 in
    (search (rules), SolidFront-more c.loop-count.count (chars c.args.text.now) (chars c.in-Some.behind.now) c.in-Some.c front (sym c.is_solid.ensures ∙ c.if-is_solid.true), omega (arith, c.loop-count-test.true))

pub returns-in_default-clause-front : goal.returns-in_default-clause-front
returns-in_default-clause-front c = c.loop-count.invariant.1

pub returns-in_default-clause-within : goal.returns-in_default-clause-within
returns-in_default-clause-within c = c.loop-count.invariant.2

pub returns-clause-front : goal.returns-clause-front
returns-clause-front c = c.loop-count.invariant.1

pub returns-clause-within : goal.returns-clause-within
returns-clause-within c = c.loop-count.invariant.2
