-- The width of an item, told by its task mark.
use Rattle.std.proofs.Common.{◌≡◌, true, false, refl}
use Rattle.md_tree.specs.declared.event.Event.TheVariants as event
use Rattle.md_tree.specs.declared.event.Tag.TheVariants as tag
use Rattle.md_tree.specs.declared.place.Place.{Place}
use Rattle.md_tree.specs.Tree.{Nodes, Empty, Leaf, Branch}
use Rattle.md_tree.specs.Good.{good_at, holds_inlines, place_inside}
use Rattle.md_tree.proofs.Nodes.{and_left, and_right}
use Rattle.md_text.specs.declared.environment.Environment.{Environment}
use Rattle.md_text.specs.Environment.{begins_with_task, with_task}

-- an environment whose item is wider if the nodes ahead begin with a task mark
abbrev pub ahead : Environment → Nodes → Environment
ahead env t = record env { item_width = with_task env.item_width t }

-- where no task mark may stand, nodes begin with none
pub no-task : (t : Nodes) (p : Place) → p.task_mark ≡ false → good_at p t ≡ true → begins_with_task t ≡ false
no-task Empty p m g = refl
no-task (Leaf (event.TaskListMarker is_done) rest) p m g =
    let may : p.task_mark ≡ true = and_right (holds_inlines p.holds) p.task_mark (and_left _ _ g) in cc
no-task (Leaf e rest) p m g = refl
no-task (Branch tag.Paragraph inside rest) p m g =
    no-task inside (place_inside p tag.Paragraph) m (and_left _ _ (and_right _ _ g))
no-task (Branch t inside rest) p m g = refl

pub ahead-none : (t : Nodes) (env : Environment) → begins_with_task t ≡ false → ahead env t ≡ env
ahead-none t env h = rw h refl
