use Rattle.std.proofs.Common.{ap, sym, subst}
use Rattle.std.specs.Prelude.{IfSome}
use Rattle.term_core.specs.Graph.{graphs}
use Rattle.term_core.specs.Wrap.{NoneWider}
use Rattle.term_widgets.specs.Page.{PageView, AllFit}
use Rattle.term_widgets.proofs.LineLemmas.{lent_fits}
use Rattle.term_widgets.proofs.page.Page.line.Goals as goal

pub returns-clause-fits : goal.returns-clause-fits
returns-clause-fits c =
    subst (λ w. IfSome c.get.result (λ line. NoneWider w (graphs line.now))) (ap (λ (p : PageView). p.width) c.self.view_is)
    (lent_fits (λ line. line.now) c.get.result c.self.inside.width c.args.index c.lines.result.now
    (subst (AllFit c.self.inside.width) (sym c.lines.ensures) c.self.invariant.0) c.get.ensures.lookup.0 c.get.ensures.lookup.1)
