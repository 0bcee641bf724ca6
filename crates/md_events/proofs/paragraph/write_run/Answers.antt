use Rattle.std.proofs.Common.{◌≡◌, ◌++◌, ap, sym, subst, map, List}
use Rattle.std.specs.Result.{OnOk}
use Rattle.md_lines.specs.Lines.{body_of}
use Rattle.md_tree.specs.declared.event.Event.{Event}
use Rattle.md_tree.specs.Tree.{events}
use Rattle.md_tree.proofs.Nodes.{nodes_then-empty}
use Rattle.md_inline.specs.Inlines.{inlines}
use Rattle.md_events.proofs.paragraph.write_run.Goals as goal

pub returns-then-tight : goal.returns-then-tight
returns-then-tight c =
    rw c.if-tight.true
    (subst (λ (x : List Event). OnOk c.write_inlines.result (c.write_inlines.new.out.items ≡ x))
    (ap (λ t. c.args.out.now.items ++ events t) (sym (nodes_then-empty (inlines (map body_of c.args.lines.now))))) c.write_inlines.ensures)
