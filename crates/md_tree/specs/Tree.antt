-- Trees of Markdown, and their events.
use Rattle.std.specs.Prelude.{ℕ, Bool, true, false, List, [], ◌∷◌, Option, None, Some}
use Rattle.md_tree.specs.declared.event.Event.{Event}
use Rattle.md_tree.specs.declared.event.Event.TheVariants as event
use Rattle.md_tree.specs.declared.event.Tag.{Tag}
use Rattle.md_tree.specs.declared.event.Tag.TheVariants as tag
use Rattle.md_tree.specs.declared.event.TagEnd.{TagEnd}
use Rattle.md_tree.specs.declared.event.TagEnd.TheVariants as tag_end

-- nodes in order: none, or a leaf and the rest, or an element with the nodes inside it and the rest
pub data Nodes : Type 0 where
  Empty : Nodes
  Leaf : Event → Nodes → Nodes
  Branch : Tag → Nodes → Nodes → Nodes

-- whether a list has numbers
abbrev pub has_number : Option ℕ → Bool
has_number (Some n) = true
has_number None = false

-- the end of an element carries the values of its start
abbrev pub end_of : Tag → TagEnd
end_of tag.Paragraph = tag_end.Paragraph
end_of (tag.Heading level id classes attrs) = tag_end.Heading level
end_of (tag.BlockQuote kind) = tag_end.BlockQuote kind
end_of (tag.CodeBlock kind) = tag_end.CodeBlock
end_of tag.HtmlBlock = tag_end.HtmlBlock
end_of (tag.List start) = tag_end.List (has_number start)
end_of tag.Item = tag_end.Item
end_of (tag.FootnoteDefinition label) = tag_end.FootnoteDefinition
end_of tag.DefinitionList = tag_end.DefinitionList
end_of tag.DefinitionListTitle = tag_end.DefinitionListTitle
end_of tag.DefinitionListDefinition = tag_end.DefinitionListDefinition
end_of (tag.Table alignments) = tag_end.Table
end_of tag.TableHead = tag_end.TableHead
end_of tag.TableRow = tag_end.TableRow
end_of tag.TableCell = tag_end.TableCell
end_of tag.Emphasis = tag_end.Emphasis
end_of tag.Strong = tag_end.Strong
end_of tag.Strikethrough = tag_end.Strikethrough
end_of tag.Superscript = tag_end.Superscript
end_of tag.Subscript = tag_end.Subscript
end_of (tag.Link dest) = tag_end.Link
end_of (tag.Image dest) = tag_end.Image
end_of tag.MetadataBlock = tag_end.MetadataBlock

-- the events of these nodes, and then others
abbrev pub events_then : Nodes → List Event → List Event
events_then Empty es = es
events_then (Leaf e rest) es = e ∷ events_then rest es
events_then (Branch t inside rest) es =
    event.Start t ∷ events_then inside (event.End (end_of t) ∷ events_then rest es)

-- a tree written as events: start and end around each element, leaves as they are
abbrev pub events : Nodes → List Event
events t = events_then t []

-- nodes behind nodes
abbrev pub nodes_then : Nodes → Nodes → Nodes
nodes_then Empty u = u
nodes_then (Leaf e rest) u = Leaf e (nodes_then rest u)
nodes_then (Branch t inside rest) u = Branch t inside (nodes_then rest u)
