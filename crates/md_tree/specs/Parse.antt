-- The tree of a list of events.
use Rattle.std.specs.Prelude.{ℕ, ◌+◌, ◌==◌, if◌then◌else◌, Bool, true, false, List, [], ◌∷◌, Option, None, Some}
use Rattle.md_tree.specs.declared.event.HeadingLevel.{HeadingLevel}
use Rattle.md_tree.specs.declared.event.HeadingLevel.TheVariants.{H1, H2, H3, H4, H5, H6}
use Rattle.md_tree.specs.declared.event.BlockQuoteKind.{BlockQuoteKind}
use Rattle.md_tree.specs.declared.event.BlockQuoteKind.TheVariants as alert
use Rattle.md_tree.specs.declared.event.Event.{Event}
use Rattle.md_tree.specs.declared.event.Event.TheVariants as event
use Rattle.md_tree.specs.declared.event.Tag.{Tag}
use Rattle.md_tree.specs.declared.event.TagEnd.{TagEnd}
use Rattle.md_tree.specs.declared.event.TagEnd.TheVariants as tag_end
use Rattle.md_tree.specs.Tree.{Nodes, Empty, Leaf, Branch, end_of}
use Rattle.md_tree.specs.Good.{good}

abbrev pub level_number : HeadingLevel → ℕ
level_number H1 = 0
level_number H2 = 1
level_number H3 = 2
level_number H4 = 3
level_number H5 = 4
level_number H6 = 5

abbrev pub kind_number : Option BlockQuoteKind → ℕ
kind_number None = 0
kind_number (Some alert.Note) = 1
kind_number (Some alert.Tip) = 2
kind_number (Some alert.Important) = 3
kind_number (Some alert.Warning) = 4
kind_number (Some alert.Caution) = 5

-- each end has a number of its own
abbrev pub end_number : TagEnd → ℕ
end_number tag_end.Paragraph = 0
end_number tag_end.CodeBlock = 1
end_number tag_end.HtmlBlock = 2
end_number tag_end.Item = 3
end_number tag_end.FootnoteDefinition = 4
end_number tag_end.DefinitionList = 5
end_number tag_end.DefinitionListTitle = 6
end_number tag_end.DefinitionListDefinition = 7
end_number tag_end.Table = 8
end_number tag_end.TableHead = 9
end_number tag_end.TableRow = 10
end_number tag_end.TableCell = 11
end_number tag_end.Emphasis = 12
end_number tag_end.Strong = 13
end_number tag_end.Strikethrough = 14
end_number tag_end.Superscript = 15
end_number tag_end.Subscript = 16
end_number tag_end.Link = 17
end_number tag_end.Image = 18
end_number tag_end.MetadataBlock = 19
end_number (tag_end.List false) = 20
end_number (tag_end.List true) = 21
end_number (tag_end.Heading h) = 22 + level_number h
end_number (tag_end.BlockQuote kind) = 28 + kind_number kind

-- whether two ends are one
abbrev pub same_end : TagEnd → TagEnd → Bool
same_end a b = end_number a == end_number b

-- the nodes of an outer level, behind the end of the level inside it
pub record Level : Type 0 where
  pub ends : TagEnd
  pub nodes : Nodes

-- what stands from a place on: the nodes up to the end of its level, and the outer levels, innermost first
pub record Ahead : Type 0 where
  pub nodes : Nodes
  pub outer : List Level

-- an element is what stands ahead up to its end, which must be its own
abbrev pub with_branch : Tag → Nodes → List Level → Option Ahead
with_branch t inside [] = None
with_branch t inside (l ∷ ls) =
    if same_end (end_of t) l.ends then Some (record { nodes = Branch t inside l.nodes; outer = ls }) else None

abbrev pub behind_start : Tag → Option Ahead → Option Ahead
behind_start t None = None
behind_start t (Some a) = with_branch t a.nodes a.outer

abbrev pub behind_end : TagEnd → Option Ahead → Option Ahead
behind_end e None = None
behind_end e (Some a) = Some (record { nodes = Empty; outer = (record { ends = e; nodes = a.nodes }) ∷ a.outer })

abbrev pub behind_leaf : Event → Option Ahead → Option Ahead
behind_leaf e None = None
behind_leaf e (Some a) = Some (record { nodes = Leaf e a.nodes; outer = a.outer })

-- the nodes that events stand for, read from the back
abbrev pub parse : List Event → Option Ahead
parse [] = Some (record { nodes = Empty; outer = [] })
parse (event.Start t ∷ es) = behind_start t (parse es)
parse (event.End e ∷ es) = behind_end e (parse es)
parse (e ∷ es) = behind_leaf e (parse es)

-- the nodes, if no level is open and they are good
abbrev pub whole : Nodes → List Level → Option Nodes
whole t [] = if good t then Some t else None
whole t (l ∷ ls) = None

abbrev pub tree_in : Option Ahead → Option Nodes
tree_in None = None
tree_in (Some a) = whole a.nodes a.outer

-- the good tree of these events, if they are one's
abbrev pub tree_of : List Event → Option Nodes
tree_of es = tree_in (parse es)
