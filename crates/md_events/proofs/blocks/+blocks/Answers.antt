use Rattle.std.proofs.Common.{rules, not, false, ◌<◌, map, Some, None, ◌≡◌, ◌++◌, ◌+◌, ◌-◌, ◌∷◌, [], length, take, drop, ap, subst, ◌∙◌, arith, refl, List, ℕ, sym}
use Rattle.md_lines.specs.Lines.{LineText, body_of, is_empty}
use Rattle.md_inline.specs.Inlines.{inlines}
use Rattle.md_tree.specs.declared.event.CodeBlockKind.TheVariants.{Indented}
use Rattle.md_rules.specs.declared.start.BlockStart.TheVariants as start
use Rattle.md_rules.specs.declared.start.Items.TheVariants.{All}
use Rattle.md_rules.specs.Code.{hanging}
use Rattle.md_rules.proofs.StartLemmas.{start-table}
use Rattle.md_events.specs.declared.kept.Kept.TheVariants.{Html, Text}
use Rattle.md_events.specs.Kept.{kept_lines}
use Rattle.std.specs.Result.{OnOk}
use Rattle.md_tree.specs.declared.event.Event.{Event}
use Rattle.md_tree.specs.declared.event.Event.TheVariants.{End}
use Rattle.md_tree.specs.declared.event.Tag.TheVariants as tag
use Rattle.md_tree.specs.declared.event.TagEnd.TheVariants as end
use Rattle.md_tree.specs.Tree.{Branch, Empty, events}
use Rattle.md_rules.specs.Html.{html_more}
use Rattle.md_rules.specs.Items.{item_more}
use Rattle.md_rules.specs.Lists.{list_more, next_item}
use Rattle.md_events.specs.Node.{block_events, run_then}
use Rattle.md_events.specs.Containers.{in_item, items, with_task}
use Rattle.md_events.specs.Blocks.{blocks, paragraph_more}
use Rattle.md_events.specs.Written.{empty_front, front_paragraph, nests}
use Rattle.md_rules.proofs.ListLemmas.{next_item-marker}
use Rattle.md_rules.proofs.Slices.{length-slice, slice-rest}
use Rattle.md_events.proofs.ContainerSteps.{first_marker-some, footnote-written, item-turn, item-written, items-empty-turn, items-end, items-stop, list-written, quote-lines, quote-within, quote-written}
use Rattle.md_rules.specs.declared.entry.Entry.{Entry}
use Rattle.md_rules.specs.Entries.{entry_more, next_entry}
use Rattle.md_rules.proofs.EntryLemmas.{next_entry-description}
use Rattle.md_events.specs.Definitions.{entries, entry_tag, in_entry, in_title}
use Rattle.md_events.proofs.DefinitionSteps.{definitions-written, description-written, entries-empty-turn, entries-end, entries-stop, entry-turn}
use Rattle.md_events.proofs.TaskSteps.{mark-first, marked-blocks}
use Rattle.md_events.proofs.Steps.{block-turn, blocks-end, empty-turn}
use Rattle.md_events.proofs.RuleSteps.{block-is, definitions-is, footnote-is, from-first, less-one, list-events, list-is, own-lines, quote-events, quote-is}
use Rattle.md_events.proofs.blocks.+blocks.Goals as goal

pub write_block-overflow_sub-levels : goal.write_block-overflow_sub-levels
write_block-overflow_sub-levels t c =
    let first = from-first c.args.lines.now c.index-lines-0.result (take (length c.args.lines.now - 1) (drop 1 c.args.lines.now)) c.requires c.index-lines-0.is (slice-rest 1 c.args.lines.now) in
    (quote-is c.args.levels c.args.lines.now c.index-lines-0.result (take (length c.args.lines.now - 1) (drop 1 c.args.lines.now)) c.nests-nests.result first c.nests-nests.ensures (sym c.block_start.ensures ∙ c.in-Quote.is)).2

pub write_block-write_quote-requires : goal.write_block-write_quote-requires
write_block-write_quote-requires t c =
    let first = from-first c.args.lines.now c.index-lines-0.result (take (length c.args.lines.now - 1) (drop 1 c.args.lines.now)) c.requires c.index-lines-0.is (slice-rest 1 c.args.lines.now) in
    let found = quote-is c.args.levels c.args.lines.now c.index-lines-0.result (take (length c.args.lines.now - 1) (drop 1 c.args.lines.now)) c.nests-nests.result first c.nests-nests.ensures (sym c.block_start.ensures ∙ c.in-Quote.is) in
    let some : 0 < c.args.levels = found.2 in
    (omega (arith, some), found.0)

pub write_block-overflow_sub-levels-in-Item : goal.write_block-overflow_sub-levels-in-Item
write_block-overflow_sub-levels-in-Item t c =
    let first = from-first c.args.lines.now c.index-lines-0.result (take (length c.args.lines.now - 1) (drop 1 c.args.lines.now)) c.requires c.index-lines-0.is (slice-rest 1 c.args.lines.now) in
    (list-is c.args.levels c.args.lines.now c.index-lines-0.result (take (length c.args.lines.now - 1) (drop 1 c.args.lines.now)) c.nests-nests.result c.in-Item.marker first c.nests-nests.ensures (sym c.block_start.ensures ∙ c.in-Item.is)).2

pub write_block-write_list-requires : goal.write_block-write_list-requires
write_block-write_list-requires t c =
    let first = from-first c.args.lines.now c.index-lines-0.result (take (length c.args.lines.now - 1) (drop 1 c.args.lines.now)) c.requires c.index-lines-0.is (slice-rest 1 c.args.lines.now) in
    let found = list-is c.args.levels c.args.lines.now c.index-lines-0.result (take (length c.args.lines.now - 1) (drop 1 c.args.lines.now)) c.nests-nests.result c.in-Item.marker first c.nests-nests.ensures (sym c.block_start.ensures ∙ c.in-Item.is) in
    let some : 0 < c.args.levels = found.2 in
    (omega (arith, some), found.0)

pub write_block-write_table-requires : goal.write_block-write_table-requires
write_block-write_table-requires t c =
    start-table c.nests-nests.result All c.index-lines-0.result (take (length c.args.lines.now - 1) (drop 1 c.args.lines.now)) (sym c.block_start.ensures ∙ c.in-Table.is)

pub write_block-returns-in_ok-write_code-in-Code-clause-written : goal.write_block-returns-in_ok-write_code-in-Code-clause-written
write_block-returns-in_ok-write_code-in-Code-clause-written t c =
    let lines : List LineText = c.args.lines.now in
    let line : LineText = c.index-lines-0.result in
    let later : List LineText = take (length lines - 1) (drop 1 lines) in
    let first : lines ≡ line ∷ later = from-first c.args.lines.now c.index-lines-0.result (take (length c.args.lines.now - 1) (drop 1 c.args.lines.now)) c.requires c.index-lines-0.is (slice-rest 1 c.args.lines.now) in
    let found = block-is c.args.levels lines line later c.nests-nests.result start.Code first c.nests-nests.ensures (sym c.block_start.ensures ∙ c.in-Code.is) in
    c.in_ok-write_code-in-Code.ensures
    ∙ (ap (λ ls. c.args.out.now.items ++ events (Branch (tag.CodeBlock Indented) (kept_lines Text 4 ls) Empty)) (own-lines lines line later c.hanging-more.result (hanging 4 later) first c.hanging-more.ensures.value)
    ∙ ap (λ b. c.args.out.now.items ++ block_events c.args.tight b) (sym found))

pub write_block-returns-in_ok-write_run-in-Paragraph-clause-written : goal.write_block-returns-in_ok-write_run-in-Paragraph-clause-written
write_block-returns-in_ok-write_run-in-Paragraph-clause-written t c =
    let lines : List LineText = c.args.lines.now in
    let line : LineText = c.index-lines-0.result in
    let later : List LineText = take (length lines - 1) (drop 1 lines) in
    let first : lines ≡ line ∷ later = from-first c.args.lines.now c.index-lines-0.result (take (length c.args.lines.now - 1) (drop 1 c.args.lines.now)) c.requires c.index-lines-0.is (slice-rest 1 c.args.lines.now) in
    let found = block-is c.args.levels lines line later c.nests-nests.result start.Paragraph first c.nests-nests.ensures (sym c.block_start.ensures ∙ c.in-Paragraph.is) in
    let count = c.paragraph_more-more.ensures.value ∙ ap (λ v. paragraph_more v later) c.nests-nests.ensures in
    c.in_ok-write_run-in-Paragraph.ensures
    ∙ (ap (λ ls. c.args.out.now.items ++ events (run_then c.args.tight (inlines (map body_of ls)) Empty)) (own-lines lines line later c.paragraph_more-more.result (paragraph_more (nests c.args.levels) later) first count)
    ∙ ap (λ b. c.args.out.now.items ++ block_events c.args.tight b) (sym found))

pub write_block-returns-in-Quote-clause-written : goal.write_block-returns-in-Quote-clause-written
write_block-returns-in-Quote-clause-written t c =
    let lines : List LineText = c.args.lines.now in
    let first = from-first c.args.lines.now c.index-lines-0.result (take (length c.args.lines.now - 1) (drop 1 c.args.lines.now)) c.requires c.index-lines-0.is (slice-rest 1 c.args.lines.now) in
    let found = (quote-is c.args.levels c.args.lines.now c.index-lines-0.result (take (length c.args.lines.now - 1) (drop 1 c.args.lines.now)) c.nests-nests.result first c.nests-nests.ensures (sym c.block_start.ensures ∙ c.in-Quote.is)).1 in
    subst (λ (x : List Event). OnOk c.write_quote.result (c.write_quote.new.out.items ≡ c.args.out.now.items ++ x))
    (quote-events (c.args.levels - 1) c.args.tight lines c.index-lines-0.result (take (length lines - 1) (drop 1 lines)) first ∙ ap (block_events c.args.tight) (sym found)) c.write_quote.ensures.written

pub write_block-returns-in-Item-clause-written : goal.write_block-returns-in-Item-clause-written
write_block-returns-in-Item-clause-written t c =
    let lines : List LineText = c.args.lines.now in
    let first = from-first c.args.lines.now c.index-lines-0.result (take (length c.args.lines.now - 1) (drop 1 c.args.lines.now)) c.requires c.index-lines-0.is (slice-rest 1 c.args.lines.now) in
    let found = (list-is c.args.levels c.args.lines.now c.index-lines-0.result (take (length c.args.lines.now - 1) (drop 1 c.args.lines.now)) c.nests-nests.result c.in-Item.marker first c.nests-nests.ensures (sym c.block_start.ensures ∙ c.in-Item.is)).1 in
    subst (λ (x : List Event). OnOk c.write_list.result (c.write_list.new.out.items ≡ c.args.out.now.items ++ x))
    (list-events (c.args.levels - 1) c.args.tight c.in-Item.marker lines c.index-lines-0.result (take (length lines - 1) (drop 1 lines)) first ∙ ap (block_events c.args.tight) (sym found)) c.write_list.ensures.written

pub write_item_blocks-returns-in_ok-write_paragraph-in-Some-front_paragraph : goal.write_item_blocks-returns-in_ok-write_paragraph-in-Some-front_paragraph
write_item_blocks-returns-in_ok-write_paragraph-in-Some-front_paragraph t c =
    let lines : List LineText = c.args.lines.now in
    let k : ℕ = c.empty_front.result in
    let front : List LineText = take (length lines - k) (drop k lines) in
    let count : ℕ = c.in-Some-front_paragraph.count in
    let rest : List LineText = take (length front - count) (drop count front) in
    let at : front ≡ drop (empty_front lines) lines = slice-rest k lines ∙ ap (λ n. drop n lines) c.empty_front.ensures.value in
    let found : front_paragraph c.args.tight (nests c.args.levels) front ≡ Some count = ap (λ v. front_paragraph c.args.tight v front) (sym c.nests.ensures) ∙ (sym c.front_paragraph.ensures.value ∙ c.in-Some-front_paragraph.is) in
    subst (λ (x : List Event). OnOk c.write_blocks-in-Some-front_paragraph.result (c.write_blocks-in-Some-front_paragraph.new.out.items ≡ x))
    (marked-blocks c.args.levels c.args.tight c.in-Some.done lines front rest count c.args.out.now.items c.write_paragraph.new.out.items at found (slice-rest count front) c.in_ok-write_paragraph-in-Some-front_paragraph.ensures
    ∙ ap (λ x. c.args.out.now.items ++ events (with_task c.args.tight x (blocks c.args.levels c.args.tight lines))) (sym c.in-Some.is)) c.write_blocks-in-Some-front_paragraph.ensures

pub write_item_blocks-returns-in_ok-push-in-None : goal.write_item_blocks-returns-in_ok-push-in-None
write_item_blocks-returns-in_ok-push-in-None t c =
    let lines : List LineText = c.args.lines.now in
    let k : ℕ = c.empty_front.result in
    let front : List LineText = take (length lines - k) (drop k lines) in
    let at : front ≡ drop (empty_front lines) lines = slice-rest k lines ∙ ap (λ n. drop n lines) c.empty_front.ensures.value in
    let found : front_paragraph c.args.tight (nests c.args.levels) front ≡ None = ap (λ v. front_paragraph c.args.tight v front) (sym c.nests.ensures) ∙ (sym c.front_paragraph.ensures.value ∙ c.in-None.is) in
    subst (λ (x : List Event). OnOk c.write_blocks-in-None.result (c.write_blocks-in-None.new.out.items ≡ x))
    (mark-first c.args.levels c.args.tight c.in-Some.done lines front c.args.out.now.items c.push.new.self.items at found c.in_ok-push-in-None.ensures.items
    ∙ ap (λ x. c.args.out.now.items ++ events (with_task c.args.tight x (blocks c.args.levels c.args.tight lines))) (sym c.in-Some.is)) c.write_blocks-in-None.ensures

pub write_quote-overflow_sub-result : goal.write_quote-overflow_sub-result
write_quote-overflow_sub-result t c =
    let count = quote-lines c.args.levels c.args.lines.now c.as_slice-inside.result.now c.requires (c.as_slice-inside.ensures.value ∙ c.in_ok-inside.ensures) in
    omega (arith, count)

pub write_blocks-loop-at-preserved-then-is_empty : goal.write_blocks-loop-at-preserved-then-is_empty
write_blocks-loop-at-preserved-then-is_empty t c = (
  omega arith,
  empty-turn c.args.levels c.args.tight c.args.lines.now c.loop-at.at c.index-lines-at.result _ _ c.loop-at-test.true
      (ap is_empty (sym c.index-lines-at.is) ∙ (sym c.is_empty.ensures ∙ c.if-is_empty.true)) c.loop-at.invariant.1,
)

pub write_blocks-loop-at-preserved : goal.write_blocks-loop-at-preserved
write_blocks-loop-at-preserved t c = (
  omega (arith, length-slice c.loop-at.at c.args.lines.now, c.in_ok-at.ensures.within, c.loop-at-test.true),
  block-turn c.args.levels c.args.tight c.args.lines.now c.loop-at.at c.in_ok-at.field-0 c.index-lines-at.result _ _ _ c.loop-at-test.true
      (ap is_empty (sym c.index-lines-at.is) ∙ (sym c.is_empty.ensures ∙ c.if-is_empty.false))
      c.in_ok-at.ensures.written c.in_ok-at.ensures.lines c.loop-at.invariant.1,
)

pub write_blocks-returns : goal.write_blocks-returns
write_blocks-returns t c = blocks-end c.args.levels c.args.tight c.args.lines.now c.loop-at.at _ _ c.loop-at-test.false c.loop-at.invariant.1

pub write_item-returns : goal.write_item-returns
write_item-returns t c =
    item-written (blocks c.args.levels) c.args.tight c.args.marker c.args.line.now c.item_line-first.result c.args.own.now c.as_slice.result.now c.task_of-task.result c.column.result _ _
    c.item_line-first.ensures c.task_of-task.ensures c.column.ensures (c.as_slice.ensures.value ∙ c.in_ok-inside.ensures)
    (c.in_ok-push-2.ensures.items
    ∙ ap (λ x. x ++ End end.Item ∷ [])
    (c.in_ok-write_item_blocks.ensures ∙ ap (λ x. x ++ events (with_task c.args.tight c.task_of-task.result (blocks c.args.levels c.args.tight c.as_slice.result.now))) c.in_ok-push.ensures.items))

pub write_items-loop-at-preserved-then-is_empty : goal.write_items-loop-at-preserved-then-is_empty
write_items-loop-at-preserved-then-is_empty t c = (
  omega arith,
  items-empty-turn (blocks c.args.levels) c.args.tight c.args.kind c.args.lines.now c.loop-at.at c.index-lines-at.result _ _ c.loop-at-test.true
      (ap is_empty (sym c.index-lines-at.is) ∙ (sym c.is_empty.ensures ∙ c.if-is_empty.true)) c.loop-at.invariant.1,
)

pub write_items-item_more-own-requires : goal.write_items-item_more-own-requires
write_items-item_more-own-requires t c = next_item-marker c.args.kind c.index-lines-at.result c.in-Some.marker (sym c.next_item.ensures ∙ c.in-Some.is)

pub write_items-write_item-requires : goal.write_items-write_item-requires
write_items-write_item-requires t c =
    (search rules, next_item-marker c.args.kind c.index-lines-at.result c.in-Some.marker (sym c.next_item.ensures ∙ c.in-Some.is))

pub write_items-loop-at-preserved : goal.write_items-loop-at-preserved
write_items-loop-at-preserved t c =
    let at : ℕ = c.loop-at.at in
    let lines : List LineText = c.args.lines.now in
    let later : List LineText = drop (at + 1) lines in
    let own : c.item_more-own.result ≡ item_more c.in-Some.marker c.index-lines-at.result later = c.item_more-own.ensures.value ∙ ap (item_more c.in-Some.marker c.index-lines-at.result) (slice-rest (at + 1) lines) in
    let count : at + 1 + c.item_more-own.result - (at + 1) ≡ c.item_more-own.result = omega arith in (
      omega (arith, length-slice (at + 1) lines, c.item_more-own.ensures.within, c.loop-at-test.true),
      item-turn (blocks c.args.levels) c.args.tight c.args.kind lines later at c.item_more-own.result c.index-lines-at.result c.in-Some.marker _ _ _ c.loop-at-test.true c.index-lines-at.is refl
          (sym c.is_empty.ensures ∙ c.if-is_empty.false) (sym c.next_item.ensures ∙ c.in-Some.is) own
          (c.in_ok-write_item.ensures ∙ ap (λ k. c.loop-at.out.items ++ events (Branch tag.Item (in_item (blocks c.args.levels) c.args.tight c.in-Some.marker c.index-lines-at.result (take k later)) Empty)) count)
          c.loop-at.invariant.1,
    )

pub write_items-returns-after-loop-at : goal.write_items-returns-after-loop-at
write_items-returns-after-loop-at t c = items-end (blocks c.args.levels) c.args.tight c.args.kind c.args.lines.now c.loop-at.at _ _ c.loop-at-test.false c.loop-at.invariant.1

pub write_items-returns-in_default : goal.write_items-returns-in_default
write_items-returns-in_default t c =
    items-stop (blocks c.args.levels) c.args.tight c.args.kind c.args.lines.now c.loop-at.at c.index-lines-at.result _ _ c.loop-at-test.true
    (ap is_empty (sym c.index-lines-at.is) ∙ (sym c.is_empty.ensures ∙ c.if-is_empty.false))
    (ap (next_item c.args.kind) (sym c.index-lines-at.is) ∙ (sym c.next_item.ensures ∙ c.in_default.is)) c.loop-at.invariant.1

pub write_list-returns-clause-written : goal.write_list-returns-clause-written
write_list-returns-clause-written t c =
    let lines : List LineText = c.args.lines.now in
    let later : List LineText = take (length lines - 1) (drop 1 lines) in
    list-written c.args.levels c.args.marker lines later c.index-lines-0.result c.list_more-more.result _ c.is_some.result _ _ (first_marker-some lines c.args.marker c.requires) (slice-rest 1 lines) c.index-lines-0.is
    (c.list_more-more.ensures.value ∙ ap (λ n. list_more c.args.marker.kind n later) c.item_more.ensures.value) (ap not c.is_loose-tight.ensures) c.is_some.ensures
    (c.in_ok-push-2.ensures.items
    ∙ ap (λ x. x ++ End (end.List c.is_some.result) ∷ [])
    (c.in_ok-write_items.ensures ∙ ap (λ x. x ++ events (items (blocks c.args.levels) (not c.is_loose-tight.result) c.args.marker.kind 0 lines)) c.in_ok-push.ensures.items))

pub write_quote-returns-clause-written : goal.write_quote-returns-clause-written
write_quote-returns-clause-written t c =
    let inner : List LineText = c.as_slice-inside.result.now in
    let rest : List LineText = c.without_kind.result.now in
    quote-written c.args.levels c.args.lines.now inner rest c.first_alert-kind.result _ _ c.requires (c.as_slice-inside.ensures.value ∙ c.in_ok-inside.ensures) c.first_alert-kind.ensures c.without_kind.ensures
    (c.in_ok-push-2.ensures.items
    ∙ ap (λ x. x ++ End (end.BlockQuote c.first_alert-kind.result) ∷ [])
    (c.in_ok-write_blocks.ensures ∙ ap (λ x. x ++ events (blocks c.args.levels false rest)) c.in_ok-push.ensures.items))

pub write_quote-returns-clause-lines : goal.write_quote-returns-clause-lines
write_quote-returns-clause-lines t c = let count = quote-lines c.args.levels c.args.lines.now c.as_slice-inside.result.now c.requires (c.as_slice-inside.ensures.value ∙ c.in_ok-inside.ensures) in less-one _ _ count

pub write_quote-returns-clause-within : goal.write_quote-returns-clause-within
write_quote-returns-clause-within t c = quote-within c.args.levels c.args.lines.now c.as_slice-inside.result.now c.requires (c.as_slice-inside.ensures.value ∙ c.in_ok-inside.ensures)

pub write_block-overflow_sub-levels-in-Definitions : goal.write_block-overflow_sub-levels-in-Definitions
write_block-overflow_sub-levels-in-Definitions t c =
    let first = from-first c.args.lines.now c.index-lines-0.result (take (length c.args.lines.now - 1) (drop 1 c.args.lines.now)) c.requires c.index-lines-0.is (slice-rest 1 c.args.lines.now) in
    (definitions-is c.args.levels c.args.lines.now c.index-lines-0.result (take (length c.args.lines.now - 1) (drop 1 c.args.lines.now)) c.nests-nests.result first c.nests-nests.ensures (sym c.block_start.ensures ∙ c.in-Definitions.is)).1

pub write_block-write_definitions-requires : goal.write_block-write_definitions-requires
write_block-write_definitions-requires t c =
    let first = from-first c.args.lines.now c.index-lines-0.result (take (length c.args.lines.now - 1) (drop 1 c.args.lines.now)) c.requires c.index-lines-0.is (slice-rest 1 c.args.lines.now) in
    let some : 0 < c.args.levels = (definitions-is c.args.levels c.args.lines.now c.index-lines-0.result (take (length c.args.lines.now - 1) (drop 1 c.args.lines.now)) c.nests-nests.result first c.nests-nests.ensures (sym c.block_start.ensures ∙ c.in-Definitions.is)).1 in
    omega (arith, some)

pub write_block-returns-in-Definitions-clause-written : goal.write_block-returns-in-Definitions-clause-written
write_block-returns-in-Definitions-clause-written t c =
    let lines : List LineText = c.args.lines.now in
    let line : LineText = c.index-lines-0.result in
    let later : List LineText = take (length lines - 1) (drop 1 lines) in
    let first = from-first lines line later c.requires c.index-lines-0.is (slice-rest 1 lines) in
    let found = (definitions-is c.args.levels lines line later c.nests-nests.result first c.nests-nests.ensures (sym c.block_start.ensures ∙ c.in-Definitions.is)).0 in
    subst (λ (x : List Event). OnOk c.write_definitions.result (c.write_definitions.new.out.items ≡ c.args.out.now.items ++ x)) (sym (ap (block_events c.args.tight) found)) c.write_definitions.ensures.written

pub write_block-overflow_sub-levels-in-Footnote : goal.write_block-overflow_sub-levels-in-Footnote
write_block-overflow_sub-levels-in-Footnote t c =
    let first = from-first c.args.lines.now c.index-lines-0.result (take (length c.args.lines.now - 1) (drop 1 c.args.lines.now)) c.requires c.index-lines-0.is (slice-rest 1 c.args.lines.now) in
    (footnote-is c.args.levels c.args.lines.now c.index-lines-0.result (take (length c.args.lines.now - 1) (drop 1 c.args.lines.now)) c.nests-nests.result c.in-Footnote.label first c.nests-nests.ensures (sym c.block_start.ensures ∙ c.in-Footnote.is)).2

pub write_block-write_footnote-requires : goal.write_block-write_footnote-requires
write_block-write_footnote-requires t c =
    let first = from-first c.args.lines.now c.index-lines-0.result (take (length c.args.lines.now - 1) (drop 1 c.args.lines.now)) c.requires c.index-lines-0.is (slice-rest 1 c.args.lines.now) in
    let found = footnote-is c.args.levels c.args.lines.now c.index-lines-0.result (take (length c.args.lines.now - 1) (drop 1 c.args.lines.now)) c.nests-nests.result c.in-Footnote.label first c.nests-nests.ensures (sym c.block_start.ensures ∙ c.in-Footnote.is) in
    let some : 0 < c.args.levels = found.2 in
    (omega (arith, some), found.0)

pub write_block-returns-in-Footnote-clause-written : goal.write_block-returns-in-Footnote-clause-written
write_block-returns-in-Footnote-clause-written t c =
    let lines : List LineText = c.args.lines.now in
    let line : LineText = c.index-lines-0.result in
    let later : List LineText = take (length lines - 1) (drop 1 lines) in
    let first = from-first lines line later c.requires c.index-lines-0.is (slice-rest 1 lines) in
    let found = (footnote-is c.args.levels lines line later c.nests-nests.result c.in-Footnote.label first c.nests-nests.ensures (sym c.block_start.ensures ∙ c.in-Footnote.is)).1 in
    subst (λ (x : List Event). OnOk c.write_footnote.result (c.write_footnote.new.out.items ≡ c.args.out.now.items ++ x)) (sym (ap (block_events c.args.tight) found)) c.write_footnote.ensures.written

pub write_block-returns-in_ok-write_html-in-Html-clause-written : goal.write_block-returns-in_ok-write_html-in-Html-clause-written
write_block-returns-in_ok-write_html-in-Html-clause-written t c =
    let lines : List LineText = c.args.lines.now in
    let line : LineText = c.index-lines-0.result in
    let later : List LineText = take (length lines - 1) (drop 1 lines) in
    let first : lines ≡ line ∷ later = from-first lines line later c.requires c.index-lines-0.is (slice-rest 1 lines) in
    let found = block-is c.args.levels lines line later c.nests-nests.result (start.Html c.in-Html.end) first c.nests-nests.ensures (sym c.block_start.ensures ∙ c.in-Html.is) in
    c.in_ok-write_html-in-Html.ensures
    ∙ (ap (λ ls. c.args.out.now.items ++ events (Branch tag.HtmlBlock (kept_lines Html 0 ls) Empty)) (own-lines lines line later c.html_more-more.result (html_more c.in-Html.end line later) first c.html_more-more.ensures.value)
    ∙ ap (λ b. c.args.out.now.items ++ block_events c.args.tight b) (sym found))

pub write_footnote-returns-clause-written : goal.write_footnote-returns-clause-written
write_footnote-returns-clause-written t c =
    let later : List LineText = c.args.later.now in
    let inside : List LineText = c.as_slice.result.now in
    let count : c.hanging-more.result - 0 ≡ c.hanging-more.result = omega arith in
    footnote-written c.args.levels c.args.label c.args.line.now later inside c.hanging-more.result _ _ c.hanging-more.ensures.value
    (c.as_slice.ensures.value ∙ c.in_ok-inside.ensures)
    (c.in_ok-push-2.ensures.items
    ∙ ap (λ x. x ++ End end.FootnoteDefinition ∷ [])
    (c.in_ok-write_blocks.ensures ∙ ap (λ x. x ++ events (blocks c.args.levels false inside)) c.in_ok-push.ensures.items))

pub write_definitions-returns-clause-written : goal.write_definitions-returns-clause-written
write_definitions-returns-clause-written t c =
    definitions-written c.args.levels c.args.line.now c.args.later.now _ _
    (c.in_ok-push-2.ensures.items
    ∙ ap (λ x. x ++ End end.DefinitionList ∷ [])
    (c.in_ok-write_entries.ensures
    ∙ ap (λ x. x ++ events (entries (blocks c.args.levels) 0 c.args.later.now)) (c.in_ok-write_title.ensures ∙ ap (λ x. x ++ events (Branch tag.DefinitionListTitle (in_title c.args.line.now) Empty)) c.in_ok-push.ensures.items)))

pub write_description-returns : goal.write_description-returns
write_description-returns t c =
    let inside : List LineText = c.as_slice.result.now in
    description-written c.args.levels c.args.line.now c.args.own.now inside (not c.is_loose.result) _ _ (c.as_slice.ensures.value ∙ c.in_ok-inside.ensures) (ap not c.is_loose.ensures)
    (c.in_ok-push-2.ensures.items
    ∙ ap (λ x. x ++ End end.DefinitionListDefinition ∷ [])
    (c.in_ok-write_blocks.ensures ∙ ap (λ x. x ++ events (blocks c.args.levels (not c.is_loose.result) inside)) c.in_ok-push.ensures.items))

pub write_entries-loop-at-preserved-then-is_empty : goal.write_entries-loop-at-preserved-then-is_empty
write_entries-loop-at-preserved-then-is_empty t c = (
  omega arith,
  entries-empty-turn (blocks c.args.levels) c.args.lines.now c.loop-at.at c.index-lines-at.result _ _ c.loop-at-test.true
      (ap is_empty (sym c.index-lines-at.is) ∙ (sym c.is_empty.ensures ∙ c.if-is_empty.true)) c.loop-at.invariant.1,
)

pub write_entries-write_entry-requires : goal.write_entries-write_entry-requires
write_entries-write_entry-requires t c =
    (search rules, λ e. next_entry-description c.index-lines-at.result _ (sym c.next_entry.ensures ∙ (c.in-Some.is ∙ ap Some e)))

pub write_entries-loop-at-preserved : goal.write_entries-loop-at-preserved
write_entries-loop-at-preserved t c =
    let at : ℕ = c.loop-at.at in
    let lines : List LineText = c.args.lines.now in
    let later : List LineText = drop (at + 1) lines in
    let entry : Entry = c.in-Some.entry in
    let line : LineText = c.index-lines-at.result in
    let rest = slice-rest (at + 1) lines in
    let found : next_entry line later ≡ Some entry = ap (next_entry line) (sym rest) ∙ (sym c.next_entry.ensures ∙ c.in-Some.is) in
    let own : c.entry_more-own.result ≡ entry_more entry line later = c.entry_more-own.ensures.value ∙ ap (entry_more entry line) rest in
    let count : at + 1 + c.entry_more-own.result - (at + 1) ≡ c.entry_more-own.result = omega arith in (
      omega (arith, length-slice (at + 1) lines, c.entry_more-own.ensures.within, c.loop-at-test.true),
      entry-turn (blocks c.args.levels) lines later at c.entry_more-own.result line entry _ _ _ c.loop-at-test.true c.index-lines-at.is refl
          (sym c.is_empty.ensures ∙ c.if-is_empty.false) found own
          (c.in_ok-write_entry.ensures ∙ ap (λ k. c.loop-at.out.items ++ events (Branch (entry_tag entry) (in_entry (blocks c.args.levels) entry line (take k later)) Empty)) count)
          c.loop-at.invariant.1,
    )

pub write_entries-returns-after-loop-at : goal.write_entries-returns-after-loop-at
write_entries-returns-after-loop-at t c = entries-end (blocks c.args.levels) c.args.lines.now c.loop-at.at _ _ c.loop-at-test.false c.loop-at.invariant.1

pub write_entries-returns-in_default : goal.write_entries-returns-in_default
write_entries-returns-in_default t c =
    let later : List LineText = drop (c.loop-at.at + 1) c.args.lines.now in
    entries-stop (blocks c.args.levels) c.args.lines.now later c.loop-at.at c.index-lines-at.result _ _ c.loop-at-test.true c.index-lines-at.is refl
    (sym c.is_empty.ensures ∙ c.if-is_empty.false)
    (ap (next_entry c.index-lines-at.result) (sym (slice-rest (c.loop-at.at + 1) c.args.lines.now)) ∙ (sym c.next_entry.ensures ∙ c.in_default.is)) c.loop-at.invariant.1
