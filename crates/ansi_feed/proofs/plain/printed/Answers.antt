use Rattle.std.proofs.Common.{◌≡◌, sym, arith}
use Rattle.std.specs.Prelude.{Some, slice_get}
use Rattle.ansi_feed.proofs.PlainLemmas.{printed-none, printed-more, printed-all, printed-end, get-within}
use Rattle.ansi_feed.proofs.plain.printed.Goals as goal

pub lines-init : goal.lines-init
lines-init c = printed-none c.new-out.result.items c.args.feed.now.lines c.new-out.ensures.items

pub lines-smaller : goal.lines-smaller
lines-smaller c =
    let here : slice_get c.args.feed.now.lines c.lines.index ≡ Some c.in-Some.line.now = sym c.in-Some.ensures in
    omega (arith, get-within c.args.feed.now.lines c.lines.index c.in-Some.line.now here)

pub lines-preserved : goal.lines-preserved
lines-preserved c =
    printed-more c.lines.out.items _ c.args.feed.now.lines c.lines.index c.in-Some.line.now c.lines.invariant (sym c.in-Some.ensures) c.in_ok-push_line.ensures

pub returns-in_default : goal.returns-in_default
returns-in_default c = printed-all c.lines.out.items c.args.feed.now.lines c.lines.index c.lines.invariant (sym c.in_default.ensures)

pub returns : goal.returns
returns c =
    printed-end c.lines.out.items c.args.feed.now.lines c.lines.index c.lines.invariant (omega (arith, c.len.ensures, c.lines-test.false))
