use Rattle.std.proofs.Common.{◌≡◌, None, sym, ap, ◌∙◌}
use Rattle.term_core.specs.Caption.{strokes}
use Rattle.term_core.specs.Text.{LineView}
use Rattle.term_widgets.specs.Block.{BlockView, title_graphs, title_room}
use Rattle.term_widgets.proofs.block.Block.caption.Goals as goal

pub returns-in-None-clause-ok : goal.returns-in-None-clause-ok
unfolding strokes
returns-in-None-clause-ok c =
    let none : None ≡ c.args.self.now.title = sym c.in-None.is ∙ ap (λ (b : BlockView). b.title) c.self.view_is in
    c.empty.ensures ∙ ap (λ t. strokes (title_graphs t (title_room c.args.self.now c.args.area))) none
