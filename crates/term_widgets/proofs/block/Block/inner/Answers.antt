use Rattle.std.proofs.Common.{◌≡◌, true, cond, sym, ap, ◌∙◌, arith}
use Rattle.term_widgets.specs.Block.{BlockView, within_borders, inner_without_borders}
use Rattle.term_widgets.proofs.AreaLemmas.{same_rect}
use Rattle.term_widgets.proofs.block.Block.inner.Goals as goal

pub returns-then-self : goal.returns-then-self
returns-then-self c =
    let has : c.args.self.now.bordered ≡ true = sym (ap (λ (b : BlockView). b.bordered) c.self.view_is) ∙ c.if-self.true in
    same_rect c.new.result (within_borders c.args.area) (omega arith) (omega arith) (omega arith) (omega arith)
    ∙ sym (ap (λ d. cond d (within_borders c.args.area) (inner_without_borders c.args.self.now.title c.args.area)) has)
