-- The texts of nodes, joined: the content of a block of code or HTML.
use Rattle.std.specs.Prelude.{ℕ, List, [], ◌++◌}
use Rattle.md_tree.specs.declared.event.Event.{Event}
use Rattle.md_tree.specs.declared.event.Event.TheVariants as event
use Rattle.md_tree.specs.Tree.{Nodes, Empty, Leaf, Branch}

abbrev pub leaf_text : Event → List ℕ
leaf_text (event.Text bytes) = bytes
leaf_text (event.Html bytes) = bytes
leaf_text _ = []

abbrev pub texts : Nodes → List ℕ
texts Empty = []
texts (Leaf e rest) = leaf_text e ++ texts rest
texts (Branch tag inside rest) = texts rest
