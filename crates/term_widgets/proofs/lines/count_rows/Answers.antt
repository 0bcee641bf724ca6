use Rattle.std.proofs.Common.{◌∷◌, ◌++◌, [], ap₂, sym, ◌∙◌}
use Rattle.std.proofs.lemmas.Result.{err_from_is_err_and}
use Rattle.term_widgets.proofs.CutsLemmas.{err_other}
use Rattle.term_widgets.proofs.LineLemmas.{AllFit-none, AllFit-more, any_wider-at}
use Rattle.term_widgets.proofs.RowPlaceLemmas.{row_counts-more}
use Rattle.term_widgets.proofs.lines.count_rows.Goals as goal

pub loop-line-init : goal.loop-line-init
loop-line-init c = (c.in-Ok.ensures, AllFit-none c.args.width)

pub loop-line-preserved : goal.loop-line-preserved
loop-line-preserved c =
    let w = c.args.width in
    let lines = c.args.lines.now in
    let line = c.line-item.result in
    let k = c.loop-line.line-index in (
      c.in-Ok-push.ensures.ok ∙ ap₂ (λ t n. t ++ n ∷ []) c.loop-line.invariant.0 c.in_ok-rows.ensures.ok
          ∙ sym (row_counts-more w lines k line c.loop-line-test.true c.line-item.is),
      AllFit-more w lines k line c.loop-line-test.true c.line-item.is c.loop-line.invariant.1 c.in_ok-rows.ensures.fits,
    )

pub returns-in_err-rows-clause-narrow : goal.returns-in_err-rows-clause-narrow
returns-in_err-rows-clause-narrow c =
    let p = err_from_is_err_and c.from_residual.result c.from_residual.ensures.1 in
    rw (p.1, p.2) (λ narrow. any_wider-at c.args.width c.args.lines.now c.loop-line.line-index c.line-item.result c.loop-line-test.true c.line-item.is
    (c.in_err-rows.ensures.narrow (err_other _ _ narrow)))
