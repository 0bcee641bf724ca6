use Rattle.std.proofs.Common.{Some, ◌≡◌, ◌≤◌, ◌+◌, List, ap, drop, length, subst, sym, ◌∙◌, arith, refl}
use Rattle.md_lines.specs.Lines.{LineText, is_empty}
use Rattle.md_rules.specs.Entries.{entry_more, next_entry}
use Rattle.md_rules.proofs.EntryLemmas.{empty-step, end-stop, entries-start, entry-step, other-stop}
use Rattle.md_rules.proofs.Slices.{length-slice, slice-rest}
use Rattle.md_rules.proofs.entry.entries_more.Goals as goal

pub loop-at-init : goal.loop-at-init
loop-at-init c = record { order = omega arith; within = omega arith; so_far = entries-start c.args.lines.now }

pub loop-at-preserved-then-is_empty : goal.loop-at-preserved-then-is_empty
loop-at-preserved-then-is_empty c =
    record {
      order = omega arith;
      within = omega arith;
      so_far = empty-step c.args.lines.now c.loop-at.taken c.loop-at.at c.index-lines-at.result _ c.loop-at-test.true
          (ap is_empty (sym c.index-lines-at.is) ∙ (sym c.is_empty.ensures ∙ c.if-is_empty.true)) c.loop-at.invariant.so_far;
    }

pub loop-at-preserved : goal.loop-at-preserved
loop-at-preserved c =
    let later : List LineText = drop (c.loop-at.at + 1) c.args.lines.now in
    let rest = slice-rest (c.loop-at.at + 1) c.args.lines.now in
    let found : next_entry c.index-lines-at.result later ≡ Some c.in-Some.entry = ap (next_entry c.index-lines-at.result) (sym rest) ∙ (sym c.next_entry.ensures ∙ c.in-Some.is) in
    let own : c.entry_more-at.result ≡ entry_more c.in-Some.entry c.index-lines-at.result later = c.entry_more-at.ensures.value ∙ ap (entry_more c.in-Some.entry c.index-lines-at.result) rest in
    let within : c.entry_more-at.result ≤ length later = subst (λ (x : List LineText). c.entry_more-at.result ≤ length x) rest c.entry_more-at.ensures.within in
    record {
      order = omega arith;
      within = omega (arith, length-slice (c.loop-at.at + 1) c.args.lines.now, c.entry_more-at.ensures.within, c.loop-at-test.true);
      so_far = entry-step c.args.lines.now later c.loop-at.taken c.loop-at.at c.entry_more-at.result c.index-lines-at.result c.in-Some.entry _
          c.loop-at-test.true c.index-lines-at.is refl (sym c.is_empty.ensures ∙ c.if-is_empty.false) found own within c.loop-at.invariant.so_far;
    }

pub returns-after-loop-at-clause-value : goal.returns-after-loop-at-clause-value
returns-after-loop-at-clause-value c = end-stop c.args.lines.now c.loop-at.taken c.loop-at.at _ c.loop-at-test.false c.loop-at.invariant.so_far

pub returns-in-None-clause-value : goal.returns-in-None-clause-value
returns-in-None-clause-value c =
    let later : List LineText = drop (c.loop-at.at + 1) c.args.lines.now in
    other-stop c.args.lines.now later c.loop-at.taken c.loop-at.at c.index-lines-at.result _ c.loop-at-test.true c.index-lines-at.is refl
    (sym c.is_empty.ensures ∙ c.if-is_empty.false)
    (ap (next_entry c.index-lines-at.result) (sym (slice-rest (c.loop-at.at + 1) c.args.lines.now)) ∙ (sym c.next_entry.ensures ∙ c.in-None.is)) c.loop-at.invariant.so_far
