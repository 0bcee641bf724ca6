use Rattle.std.proofs.Common.{◌≡◌, ◌≤◌, ◌+◌, List, ap, drop, length, subst, sym, ◌∙◌, arith, refl}
use Rattle.md_lines.specs.Lines.{LineText, is_empty}
use Rattle.md_rules.specs.Items.{item_more}
use Rattle.md_rules.specs.Lists.{next_item}
use Rattle.md_rules.proofs.ListLemmas.{empty-step, end-stop, item-step, list-start, next_item-marker, other-stop}
use Rattle.md_rules.proofs.Slices.{length-slice, slice-rest}
use Rattle.md_rules.proofs.list.list_more.Goals as goal

pub loop-at-init : goal.loop-at-init
loop-at-init c = record { order = omega arith; within = omega arith; so_far = list-start c.args.kind c.args.own c.args.lines.now c.requires }

pub loop-at-preserved-then-is_empty : goal.loop-at-preserved-then-is_empty
loop-at-preserved-then-is_empty c =
    record {
      order = omega arith;
      within = omega arith;
      so_far = empty-step c.args.kind c.args.lines.now c.loop-at.taken c.loop-at.at c.index-lines-at.result _ c.loop-at-test.true
          (ap is_empty (sym c.index-lines-at.is) ∙ (sym c.is_empty.ensures ∙ c.if-is_empty.true)) c.loop-at.invariant.so_far;
    }

pub item_more-at-requires : goal.item_more-at-requires
item_more-at-requires c = next_item-marker c.args.kind c.index-lines-at.result c.in-Some.marker (sym c.next_item.ensures ∙ c.in-Some.is)

pub loop-at-preserved : goal.loop-at-preserved
loop-at-preserved c =
    let later : List LineText = drop (c.loop-at.at + 1) c.args.lines.now in
    let rest = slice-rest (c.loop-at.at + 1) c.args.lines.now in
    let own : c.item_more-at.result ≡ item_more c.in-Some.marker c.index-lines-at.result later = c.item_more-at.ensures.value ∙ ap (item_more c.in-Some.marker c.index-lines-at.result) rest in
    let within : c.item_more-at.result ≤ length later = subst (λ (x : List LineText). c.item_more-at.result ≤ length x) rest c.item_more-at.ensures.within in
    record {
      order = omega arith;
      within = omega (arith, length-slice (c.loop-at.at + 1) c.args.lines.now, c.item_more-at.ensures.within, c.loop-at-test.true);
      so_far = item-step c.args.kind c.args.lines.now later c.loop-at.taken c.loop-at.at c.item_more-at.result c.index-lines-at.result c.in-Some.marker _
          c.loop-at-test.true c.index-lines-at.is refl (sym c.is_empty.ensures ∙ c.if-is_empty.false) (sym c.next_item.ensures ∙ c.in-Some.is) own within c.loop-at.invariant.so_far;
    }

pub returns-after-loop-at-clause-value : goal.returns-after-loop-at-clause-value
returns-after-loop-at-clause-value c = end-stop c.args.kind c.args.lines.now c.loop-at.taken c.loop-at.at _ c.loop-at-test.false c.loop-at.invariant.so_far

pub returns-in-None-clause-value : goal.returns-in-None-clause-value
returns-in-None-clause-value c =
    other-stop c.args.kind c.args.lines.now c.loop-at.taken c.loop-at.at c.index-lines-at.result _ c.loop-at-test.true
    (ap is_empty (sym c.index-lines-at.is) ∙ (sym c.is_empty.ensures ∙ c.if-is_empty.false))
    (ap (next_item c.args.kind) (sym c.index-lines-at.is) ∙ (sym c.next_item.ensures ∙ c.in-None.is)) c.loop-at.invariant.so_far
