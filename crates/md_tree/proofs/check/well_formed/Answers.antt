use Rattle.md_tree.proofs.Stacks.{check-tree_of}
use Rattle.md_tree.proofs.check.well_formed.Goals as goal

pub loop-event-init : goal.loop-event-init
loop-event-init c = rw (c.new-open.ensures, c.document-place.ensures) (check-tree_of c.args.events.now)
