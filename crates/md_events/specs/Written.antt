-- What the writers of blocks tell.
use Rattle.std.specs.Prelude.{ℕ, zero, suc, ◌+◌, Bool, true, false, Option, None, Some, List, [], ◌∷◌}
use Rattle.std.specs.List.{prefix_len}
use Rattle.md_tree.specs.declared.event.Event.{Event}
use Rattle.md_tree.specs.declared.event.Event.TheVariants as event
use Rattle.md_tree.specs.Tree.{Nodes, Empty, Leaf, events}
use Rattle.md_lines.specs.Lines.{LineText, is_empty}
use Rattle.md_rules.specs.declared.fence.Fence.{Fence}
use Rattle.md_rules.specs.declared.item.Marker.{Marker}
use Rattle.md_rules.specs.declared.start.BlockStart.{BlockStart}
use Rattle.md_rules.specs.declared.start.BlockStart.TheVariants as start
use Rattle.md_rules.specs.declared.start.Items.TheVariants.{All}
use Rattle.md_rules.specs.Quotes.{quotes}
use Rattle.md_rules.specs.Items.{marker_of}
use Rattle.md_rules.specs.Starts.{block_start}
use Rattle.md_events.specs.Node.{Block, Run, node_then}
use Rattle.md_events.specs.CodeBlocks.{fence_node}
use Rattle.md_events.specs.Containers.{list, quote}
use Rattle.md_events.specs.Blocks.{block, blocks, paragraph_more}

-- no block, where there is no line
abbrev pub no_block : Block
no_block = record { node = Run Empty; more = 0 }

-- containers may stand where levels are left
abbrev pub nests : ℕ → Bool
nests zero = false
nests (suc n) = true

-- how the lines of a container are read where so many levels are left
abbrev pub reader : ℕ → Bool → List LineText → Nodes
reader zero = λ t ls. Empty
reader (suc n) = λ t ls. blocks n t ls

-- the block at the first line
abbrev pub first_block : ℕ → List LineText → Block
first_block n [] = no_block
first_block n (line ∷ later) = block (nests n) (reader n) line later

abbrev pub begins_quote : List LineText → Bool
begins_quote [] = false
begins_quote (line ∷ later) = quotes line

abbrev pub first_marker : List LineText → Option Marker
first_marker [] = None
first_marker (line ∷ later) = marker_of line

abbrev pub first_quote : ℕ → List LineText → Block
first_quote n [] = no_block
first_quote n (line ∷ later) = quote (blocks n) line later

abbrev pub first_list : ℕ → Marker → List LineText → Block
first_list n marker [] = no_block
first_list n marker (line ∷ later) = list (blocks n) marker line later

-- the events of the code behind a fence
abbrev pub fence_events : Fence → List LineText → List Event
fence_events fence later = events (node_then false (fence_node fence later) Empty)

-- ---- the task mark of an item

-- how many empty lines stand in front
abbrev pub empty_front : List LineText → ℕ
empty_front lines = prefix_len is_empty lines

-- inlines with a task mark before them, where there is one
abbrev pub marked : Option Bool → Nodes → Nodes
marked None inside = inside
marked (Some done) inside = Leaf (event.TaskListMarker done) inside

-- how many lines a paragraph takes that begins so
abbrev pub lines_by : Bool → List LineText → BlockStart → Option ℕ
lines_by nests later start.Paragraph = Some (paragraph_more nests later + 1)
lines_by nests later _ = None

-- how many lines the paragraph takes that the lines begin with, if they begin with one and it is no run of inlines
abbrev pub front_paragraph : Bool → Bool → List LineText → Option ℕ
front_paragraph true nests lines = None
front_paragraph false nests [] = None
front_paragraph false nests (line ∷ later) = lines_by nests later (block_start nests All line later)
