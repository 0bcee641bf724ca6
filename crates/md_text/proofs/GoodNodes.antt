-- What is good about good nodes: the first of them stands there, what is inside it is good, and so is what follows it.
use Rattle.std.proofs.Common.{◌≡◌, true}
use Rattle.md_tree.specs.declared.event.Event.{Event}
use Rattle.md_tree.specs.declared.event.Tag.{Tag}
use Rattle.md_tree.specs.declared.place.Place.{Place}
use Rattle.md_tree.specs.Tree.{Nodes, Leaf, Branch}
use Rattle.md_tree.specs.Good.{good_at, may_stand, may_hold, place_inside, place_after, place_after_leaf}
use Rattle.md_tree.proofs.Nodes.{and_left, and_right}

pub good-leaf : (p : Place) (e : Event) (rest : Nodes) → good_at p (Leaf e rest) ≡ true → may_hold p e ≡ true
good-leaf p e rest g = and_left _ _ g

pub good-behind_leaf : (p : Place) (e : Event) (rest : Nodes) → good_at p (Leaf e rest) ≡ true → good_at (place_after_leaf p) rest ≡ true
good-behind_leaf p e rest g = and_right _ _ g

pub good-tag : (p : Place) (t : Tag) (inside rest : Nodes) → good_at p (Branch t inside rest) ≡ true → may_stand p t ≡ true
good-tag p t inside rest g = and_left _ _ g

pub good-inside : (p : Place) (t : Tag) (inside rest : Nodes) → good_at p (Branch t inside rest) ≡ true → good_at (place_inside p t) inside ≡ true
good-inside p t inside rest g = and_left _ _ (and_right _ _ g)

pub good-behind : (p : Place) (t : Tag) (inside rest : Nodes) → good_at p (Branch t inside rest) ≡ true → good_at (place_after p t) rest ≡ true
good-behind p t inside rest g = and_right _ _ (and_right _ _ g)
