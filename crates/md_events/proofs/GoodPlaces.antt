-- Nodes that are good at one place are good at another.
use Rattle.std.proofs.Common.{◌≡◌, refl, sym, subst, Bool, true, false, Option, None, Some}
use Rattle.std.proofs.lemmas.Bool.{false≢true}
use Rattle.md_tree.specs.declared.event.Event.{Event}
use Rattle.md_tree.specs.declared.event.Event.TheVariants as event
use Rattle.md_tree.specs.declared.event.Tag.{Tag}
use Rattle.md_tree.specs.declared.event.Tag.TheVariants as tag
use Rattle.md_tree.specs.declared.place.Holds.{Holds}
use Rattle.md_tree.specs.declared.place.Holds.TheVariants as level
use Rattle.md_tree.specs.declared.place.Numbers.TheVariants.{Free}
use Rattle.md_tree.specs.declared.place.Place.{Place}
use Rattle.md_tree.specs.Tree.{Nodes, Empty, Leaf, Branch}
use Rattle.md_tree.specs.Good.{good_at, level_of, may_hold, may_stand, place_after, place_inside}
use Rattle.md_tree.proofs.Nodes.{and_both, and_left, and_right}
use Rattle.md_events.specs.Containers.{mark_then, with_task}

abbrev among : Place
among = level_of level.Inlines

abbrev mixed : Place
mixed = level_of level.Mixed

hold-mixed : (e : Event) → may_hold among e ≡ true → may_hold mixed e ≡ true
hold-mixed (event.Html text) h = absurd (false≢true h)
hold-mixed (event.TaskListMarker done) h = absurd (false≢true h)
hold-mixed (event.Start t) h = absurd (false≢true h)
hold-mixed (event.End e) h = absurd (false≢true h)
hold-mixed e h = refl

stand-mixed : (t : Tag) → may_stand among t ≡ true → may_stand mixed t ≡ true
stand-mixed tag.Item h = h
stand-mixed tag.DefinitionListTitle h = h
stand-mixed tag.DefinitionListDefinition h = h
stand-mixed tag.TableHead h = h
stand-mixed tag.TableRow h = h
stand-mixed tag.TableCell h = h
stand-mixed t h = refl

inside-mixed : (t : Tag) → place_inside mixed t ≡ place_inside among t
inside-mixed tag.Paragraph = refl
inside-mixed t = refl

after-among : (t : Tag) → may_stand among t ≡ true → place_after among t ≡ among
after-among tag.TableHead h = absurd (false≢true h)
after-among t h = refl

after-mixed : (t : Tag) → may_stand among t ≡ true → place_after mixed t ≡ mixed
after-mixed tag.TableHead h = absurd (false≢true h)
after-mixed t h = refl

-- inlines may stand among blocks in an item
pub inlines-mixed : (t : Nodes) → good_at among t ≡ true → good_at mixed t ≡ true
inlines-mixed Empty g = refl
inlines-mixed (Leaf e rest) g = and_both _ _ (hold-mixed e (and_left _ _ g)) (inlines-mixed rest (and_right _ _ g))
inlines-mixed (Branch t inside rest) g =
    let stands : may_stand among t ≡ true = and_left _ _ g in
    let within : good_at (place_inside among t) inside ≡ true = and_left _ _ (and_right _ _ g) in
    let behind : good_at (place_after among t) rest ≡ true = and_right _ _ (and_right _ _ g) in
    let rest_good : good_at mixed rest ≡ true = inlines-mixed rest (subst (λ (p : Place). good_at p rest ≡ true) (after-among t stands) behind) in
    and_both _ _ (stand-mixed t stands)
    (and_both _ _ (subst (λ (p : Place). good_at p inside ≡ true) (sym (inside-mixed t)) within) (subst (λ (p : Place). good_at p rest ≡ true) (sym (after-mixed t stands)) rest_good))

-- where a task mark may come first
abbrev marked : Holds → Place
marked h = record { holds = h; in_link = false; numbers = Free; task_mark = true }

may-marked : (t : Nodes) (h : Holds) → good_at (level_of h) t ≡ true → good_at (marked h) t ≡ true
may-marked Empty h g = g
may-marked (Leaf (event.TaskListMarker done) rest) h g = absurd (false≢true (and_right _ _ (and_left _ _ g)))
may-marked (Leaf e rest) h g = g
may-marked (Branch tag.Paragraph inside rest) h g =
    and_both _ _ (and_left _ _ g) (and_both _ _ (may-marked inside level.Inlines (and_left _ _ (and_right _ _ g))) (and_right _ _ (and_right _ _ g)))
may-marked (Branch t inside rest) h g = g

mark_then-good : (done : Bool) (t : Nodes) → good_at mixed t ≡ true → good_at (marked level.Mixed) (mark_then done t) ≡ true
mark_then-good done Empty g = g
mark_then-good done (Leaf e rest) g = g
mark_then-good done (Branch tag.Paragraph inside rest) g = g
mark_then-good done (Branch t inside rest) g = g

-- an item's task mark stands well before or in good nodes
pub with_task-good : (tight : Bool) (task : Option Bool) (t : Nodes) → good_at mixed t ≡ true → good_at (marked level.Mixed) (with_task tight task t) ≡ true
with_task-good tight None t g = may-marked t level.Mixed g
with_task-good true (Some done) t g = g
with_task-good false (Some done) t g = mark_then-good done t g
