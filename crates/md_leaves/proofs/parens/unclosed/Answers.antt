use Rattle.std.proofs.Common.{◌≡◌, ◌∙◌, ◌+◌, ◌-◌, ℕ, ap, sym, subst, arith, length, get_or}
use Rattle.md_leaves.specs.Ahead.{IsStop, closers_before}
use Rattle.md_leaves.proofs.StopLemmas.{IsShort, IsShort-end, IsShort-bar, IsShort-next, IsShort-stop, IsStop-open, All-pushed, few}
use Rattle.md_leaves.proofs.parens.unclosed.Goals as goal

pub loop-at-init : goal.loop-at-init
loop-at-init c = record {
  within = omega arith;
  few = omega arith;
  short = IsShort-end c.args.source.now (length c.args.source.now) (omega arith);
  stops = λ k d lt. absurd (omega (arith, ap length c.requires));
}

pub loop-at-preserved-then-at_bar : goal.loop-at-preserved-then-at_bar
loop-at-preserved-then-at_bar c = record {
  within = omega arith;
  few = omega arith;
  short = IsShort-bar c.args.source.now (c.loop-at.at - 1) (omega arith) (sym c.at_bar.ensures ∙ c.if-at_bar.true);
  stops = c.loop-at.invariant.stops;
}

pub loop-at-preserved-in-Some : goal.loop-at-preserved-in-Some
loop-at-preserved-in-Some c =
    let at : ℕ = c.loop-at.at - 1 in
    let is : closers_before c.loop-at.closers (get_or c.args.source.now at 0) ≡ c.closers_before.result = sym c.closers_before.ensures in
    let behind : IsShort c.args.source.now (at + 1) c.loop-at.closers = subst (λ k. IsShort c.args.source.now k c.loop-at.closers) (let h : c.loop-at.at ≡ at + 1 = omega arith in h) c.loop-at.invariant.short in
    record {
      within = omega arith;
      few = omega (arith, few c.loop-at.closers c.in-Some.next (get_or c.args.source.now at 0) (is ∙ c.in-Some.is));
      short = IsShort-next c.args.source.now at c.loop-at.closers c.in-Some.next (omega arith) (sym c.at_bar.ensures ∙ c.if-at_bar.false) (is ∙ c.in-Some.is) behind;
      stops = c.loop-at.invariant.stops;
    }

pub loop-at-preserved : goal.loop-at-preserved
loop-at-preserved c =
    let at : ℕ = c.loop-at.at - 1 in
    let is : closers_before c.loop-at.closers (get_or c.args.source.now at 0) ≡ c.closers_before.result = sym c.closers_before.ensures in
    let behind : IsShort c.args.source.now (at + 1) c.loop-at.closers = subst (λ k. IsShort c.args.source.now k c.loop-at.closers) (let h : c.loop-at.at ≡ at + 1 = omega arith in h) c.loop-at.invariant.short in
    let stop : IsStop c.args.source.now at = IsStop-open c.args.source.now at c.loop-at.closers (omega arith) (sym c.at_bar.ensures ∙ c.if-at_bar.false) (is ∙ c.in-None.is) behind in
    record {
      within = omega arith;
      few = omega arith;
      short = IsShort-stop c.args.source.now at c.loop-at.closers stop;
      stops = All-pushed (IsStop c.args.source.now) c.loop-at.stops.items c.push.new.self.items at c.in_ok-push-in-None.ensures.items c.loop-at.invariant.stops stop;
    }
