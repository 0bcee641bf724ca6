use Rattle.md_inline.proofs.GoodInlines.{inlines-good}
use Rattle.md_inline.proofs.laws.inlines_are_good.Goals as goal

pub returns : goal.returns
returns c = λ bodies. inlines-good bodies
