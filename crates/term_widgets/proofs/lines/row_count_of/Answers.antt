use Rattle.std.proofs.Common.{◌≤◌, length, sym, ap, arith}
use Rattle.term_core.specs.Graph.{columns, graphs}
use Rattle.term_text.proofs.WidthLemmas.{NoneWider-widest}
use Rattle.term_text.proofs.WrapLemmas.{wrap-fits}
use Rattle.term_widgets.proofs.lines.row_count_of.Goals as goal

pub returns-then-extent-width-clause-narrow : goal.returns-then-extent-width-clause-narrow
returns-then-extent-width-clause-narrow c _ all =
    let within = (NoneWider-widest c.args.width (graphs c.args.line.now)).1 all in
    omega (arith, within, c.extent-extent.ensures.widest, c.from-width.ensures, c.if-extent-width.true)

pub returns-then-extent-width-2-clause-ok : goal.returns-then-extent-width-2-clause-ok
returns-then-extent-width-2-clause-ok c =
    let fits : columns (graphs c.args.line.now) ≤ c.args.width =
    omega (arith, c.extent-extent.ensures.columns, c.from-width.ensures, c.if-extent-width-2.true, c.ranges.width.fits) in
    sym (ap length (wrap-fits c.args.width (graphs c.args.line.now) fits))

pub row_count-requires : goal.row_count-requires
row_count-requires c =
    (NoneWider-widest c.from-width.result (graphs c.args.line.now)).0 (omega (arith, c.extent-extent.ensures.widest, c.if-extent-width.false))

pub returns-in-Some-clause-fits : goal.returns-in-Some-clause-fits
returns-in-Some-clause-fits c =
    (NoneWider-widest c.args.width (graphs c.args.line.now)).0 (omega (arith, c.extent-extent.ensures.widest, c.from-width.ensures, c.if-extent-width.false))

pub returns-then-extent-width-2-clause-fits : goal.returns-then-extent-width-2-clause-fits
returns-then-extent-width-2-clause-fits c =
    (NoneWider-widest c.args.width (graphs c.args.line.now)).0 (omega (arith, c.extent-extent.ensures.widest, c.from-width.ensures, c.if-extent-width.false))
