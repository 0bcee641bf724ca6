use Rattle.std.proofs.Common.{◌++◌, ◌∷◌, [], ap, ◌∙◌, refl}
use Rattle.md_tree.specs.declared.event.Event.TheVariants.{End}
use Rattle.md_tree.specs.declared.event.Tag.TheVariants.{TableRow}
use Rattle.md_tree.specs.declared.event.TagEnd.TheVariants as end
use Rattle.md_tree.specs.Tree.{events}
use Rattle.md_rules.specs.Tables.{cells}
use Rattle.md_events.specs.Tables.{cell_nodes}
use Rattle.md_events.proofs.Steps.{element-written}
use Rattle.md_events.proofs.tables.write_row.Goals as goal

pub returns : goal.returns
returns c =
    element-written TableRow end.TableRow (cell_nodes (cells c.args.line.now)) _ _ refl
    (c.in_ok-push-2.ensures.items
    ∙ ap (λ x. x ++ End end.TableRow ∷ [])
    (c.in_ok-write_cells.ensures ∙ ap (λ x. x ++ events (cell_nodes (cells c.args.line.now))) c.in_ok-push.ensures.items))
