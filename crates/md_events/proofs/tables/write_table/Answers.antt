use Rattle.std.proofs.Common.{◌≡◌, ◌++◌, ◌-◌, ◌∷◌, [], length, take, drop, ap, ◌∙◌, List}
use Rattle.md_tree.specs.declared.event.Event.{Event}
use Rattle.md_tree.specs.declared.event.Event.TheVariants.{End}
use Rattle.md_tree.specs.declared.event.Tag.TheVariants as tag
use Rattle.md_tree.specs.declared.event.TagEnd.TheVariants as end
use Rattle.md_tree.specs.Tree.{Branch, Empty, events}
use Rattle.md_lines.specs.Lines.{LineText}
use Rattle.md_rules.specs.Rows.{row_count}
use Rattle.md_rules.specs.Tables.{cells}
use Rattle.md_rules.proofs.Slices.{slice-rest}
use Rattle.md_events.specs.Tables.{cell_nodes, row_nodes}
use Rattle.md_events.proofs.TableSteps.{starts-some, table-written}
use Rattle.md_events.proofs.tables.write_table.Goals as goal

pub returns-clause-written : goal.returns-clause-written
returns-clause-written c =
    let later : List LineText = c.args.later.now in
    let line : LineText = c.args.line.now in
    let behind : List LineText = take (length later - 1) (drop 1 later) in
    let some = starts-some line later c.requires in
    let rows : List LineText = take c.row_count-rows.result behind in
    let taken : rows ≡ take (row_count c.args.nests behind) behind = ap (λ n. take n behind) c.row_count-rows.ensures.value in
    let head : List Event = events (Branch tag.TableHead (cell_nodes (cells line)) Empty) in
    table-written c.args.nests line c.index-later-0.result later behind rows c.in_ok-alignments.field-0 _ _ some c.index-later-0.is (slice-rest 1 later) taken c.in_ok-alignments.ensures
    (c.in_ok-push-2.ensures.items
    ∙ ap (λ x. x ++ End end.Table ∷ [])
    (c.in_ok-write_rows.ensures ∙ ap (λ x. x ++ events (row_nodes rows)) (c.in_ok-write_head.ensures ∙ ap (λ x. x ++ head) c.in_ok-push.ensures.items)))
