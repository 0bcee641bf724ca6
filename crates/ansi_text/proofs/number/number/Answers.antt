use Rattle.std.proofs.Common.{◌∙◌, ap, arith, Some}
use Rattle.ansi_text.proofs.NumberLemmas.{capped-more, capped-end}
use Rattle.ansi_text.proofs.number.number.Goals as goal

pub loop-next-preserved : goal.loop-next-preserved
loop-next-preserved c = (
  ap Some (capped-more _ c.loop-next.value c.loop-next.rest.now _ c.in-Some.ensures.digit c.min-value.ensures) ∙ c.loop-next.invariant.0,
  omega arith,
)

pub returns : goal.returns
returns c = ap Some (capped-end c.loop-next.value c.loop-next.rest.now c.in_default.ensures.digit c.loop-next.invariant.1) ∙ c.loop-next.invariant.0
