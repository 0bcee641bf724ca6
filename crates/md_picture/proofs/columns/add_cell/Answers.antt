use Rattle.std.proofs.Common.{arith, ap, ◌∙◌, ◌++◌, ◌∷◌, []}
use Rattle.std.proofs.lemmas.Grind.{common_steps}
use Rattle.md_picture.proofs.Widening.{set-widened, push-widened}
use Rattle.md_picture.proofs.columns.add_cell.Goals as goal

pub returns-then-at-len : goal.returns-then-at-len
returns-then-at-len c = set-widened c.args.at c.args.bounds.now.items _ _ c.args.cell.now (omega (arith, c.if-at-len.true, c.len.ensures)) (grind (arith, common_steps, c.index.ensures)) c.in_ok-bounds.ensures

pub returns : goal.returns
returns c = c.in_ok-push.ensures.items ∙ ap (λ w. c.args.bounds.now.items ++ w ∷ []) c.in_ok-bounded.ensures ∙ push-widened c.args.at c.args.bounds.now.items c.args.cell.now (omega (arith, c.if-at-len.false, c.len.ensures)) c.requires
