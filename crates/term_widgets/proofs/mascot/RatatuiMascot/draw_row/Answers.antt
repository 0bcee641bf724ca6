use Rattle.std.proofs.Common.{◌-◌, sym, ◌∙◌, arith}
use Rattle.std.specs.Prelude.{chars}
use Rattle.std.specs.Str.Iter.{chars_rest}
use Rattle.term_widgets.proofs.MascotLemmas.{PairsDrawn-none, PairsDrawn-step, row-drawn, upper_ends, lower_ends}
use Rattle.term_widgets.proofs.mascot.RatatuiMascot.draw_row.Goals as goal

pub pairs-init : goal.pairs-init
pairs-init c =
    PairsDrawn-none c.args.self.eye c.args.area c.args.row c.x-x.result (chars (chars_rest c.dots-uppers.result)) (chars (chars_rest c.dots-lowers.result))
    c.args.buf.now c.x-x.ensures c.dots-uppers.ensures c.dots-lowers.ensures

pub pairs-preserved : goal.pairs-preserved
pairs-preserved c =
    PairsDrawn-step c.args.self.eye c.args.area c.args.row c.pairs.x _ (chars (chars_rest c.pairs.uppers)) (chars (chars_rest c.pairs.lowers)) _ _
    c.in-Some.upper c.in-Some-next_dot.lower c.args.buf.now c.pairs.buf c.draw_pair.new.buf
    (omega arith) (omega arith) c.in-Some.ensures c.in-Some-next_dot.ensures c.pairs.invariant c.draw_pair.ensures.area c.draw_pair.ensures.cells

pub returns-in_default-clause-cells : goal.returns-in_default-clause-cells
returns-in_default-clause-cells c =
    let end = c.right-x-end.ensures in
    row-drawn c.args.self.eye c.args.area c.args.row c.pairs.x c.args.buf.now c.pairs.buf c.requires.height (omega (arith, c.pairs-test.true)) c.pairs.invariant.drawn
    (λ k from below cell. upper_ends c.args.self.eye (c.pairs.x - c.args.area.x) c.args.row k (sym c.pairs.invariant.uppers_left ∙ c.in_default.ensures) from cell)

pub returns-in_default-next_dot-clause-cells : goal.returns-in_default-next_dot-clause-cells
returns-in_default-next_dot-clause-cells c =
    let end = c.right-x-end.ensures in
    row-drawn c.args.self.eye c.args.area c.args.row c.pairs.x c.args.buf.now c.pairs.buf c.requires.height (omega (arith, c.pairs-test.true)) c.pairs.invariant.drawn
    (λ k from below cell. lower_ends c.args.self.eye (c.pairs.x - c.args.area.x) c.args.row k (sym c.pairs.invariant.lowers_left ∙ c.in_default-next_dot.ensures) from cell)

pub returns-clause-cells : goal.returns-clause-cells
returns-clause-cells c =
    let end = c.right-x-end.ensures in
    let begin = c.x-x.ensures in
    row-drawn c.args.self.eye c.args.area c.args.row c.pairs.x c.args.buf.now c.pairs.buf c.requires.height (omega (arith, c.pairs.auto.x-end)) c.pairs.invariant.drawn
    (λ k from below cell. absurd (omega (arith, c.pairs-test.false)))
