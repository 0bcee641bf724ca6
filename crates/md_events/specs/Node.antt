-- What a rule for blocks answers.
use Rattle.std.specs.Prelude.{ℕ, Bool, true, false, List}
use Rattle.md_tree.specs.declared.event.Event.{Event}
use Rattle.md_tree.specs.declared.event.Tag.{Tag}
use Rattle.md_tree.specs.declared.event.Tag.TheVariants as tag
use Rattle.md_tree.specs.Tree.{Nodes, Empty, Leaf, Branch, events, nodes_then}

-- one node: a leaf, an element with the nodes inside it, or a paragraph with its inlines
pub data Node : Type 0 where
  Single : Event → Node
  Element : Tag → Nodes → Node
  Run : Nodes → Node

-- a paragraph before other nodes: in an item of a tight list it is a run of inlines
abbrev pub run_then : Bool → Nodes → Nodes → Nodes
run_then true inside rest = nodes_then inside rest
run_then false inside rest = Branch tag.Paragraph inside rest

-- a node before others, in an item of a tight list or elsewhere
abbrev pub node_then : Bool → Node → Nodes → Nodes
node_then tight (Single e) rest = Leaf e rest
node_then tight (Element t inside) rest = Branch t inside rest
node_then tight (Run inside) rest = run_then tight inside rest

-- a block, and how many lines it takes after its first
pub record Block : Type 0 where
  pub node : Node
  pub more : ℕ

-- the events of a block
abbrev pub block_events : Bool → Block → List Event
block_events tight block = events (node_then tight block.node Empty)

-- a block of one line
abbrev pub one_line : Node → Block
one_line node = record { node = node; more = 0 }
