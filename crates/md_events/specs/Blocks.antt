-- The blocks of a text.
use Rattle.std.specs.Prelude.{ℕ, zero, suc, Bool, true, false, ◌||◌, if◌then◌else◌, List, [], ◌∷◌, drop, map, take}
use Rattle.md_tree.specs.Tree.{Nodes, Empty}
use Rattle.md_lines.specs.Lines.{LineText, body_of, is_empty, lines_of}
use Rattle.md_inline.specs.Inlines.{inlines}
use Rattle.md_tree.specs.declared.event.Event.TheVariants as event
use Rattle.md_tree.specs.declared.event.Tag.TheVariants as tag
use Rattle.md_rules.specs.declared.heading.Heading.{Heading}
use Rattle.md_rules.specs.declared.start.BlockStart.{BlockStart}
use Rattle.md_rules.specs.declared.start.BlockStart.TheVariants as start
use Rattle.md_rules.specs.declared.start.Items.TheVariants.{All}
use Rattle.md_rules.specs.Headings.{heading_at}
use Rattle.md_rules.specs.Metadata.{metadata_in, metadata_lines}
use Rattle.md_rules.specs.Starts.{block_start, interrupts}
use Rattle.md_events.specs.Node.{Block, Element, Node, Run, Single, node_then, one_line}
use Rattle.md_events.specs.CodeBlocks.{fence_block, indented}
use Rattle.md_events.specs.Containers.{footnote, list, quote}
use Rattle.md_events.specs.HtmlBlocks.{html_block}
use Rattle.md_events.specs.Tables.{table}
use Rattle.md_events.specs.Metadata.{metadata_then}
use Rattle.md_events.specs.Definitions.{definitions}

-- how many lines go on with a paragraph: each further nonempty line at which no other block begins
unfoldable pub paragraph_more : Bool → List LineText → ℕ
paragraph_more nests [] = 0
paragraph_more nests (line ∷ lines) = if is_empty line || interrupts nests line lines then 0 else suc (paragraph_more nests lines)

-- a paragraph takes this line and those that go on with it; its source is the bodies of its lines
abbrev pub paragraph : Bool → LineText → List LineText → Block
paragraph nests line later =
    record { node = Run (inlines (map body_of (line ∷ take (paragraph_more nests later) later))); more = paragraph_more nests later }

-- a heading takes its line; its source is its content
abbrev pub heading_node : Heading → Node
heading_node h = Element (tag.Heading h.level h.id h.classes h.attrs) (inlines (h.content.body ∷ []))

-- the block that begins so at a line that later lines follow
abbrev pub block_by : Bool → (Bool → List LineText → Nodes) → LineText → List LineText → BlockStart → Block
block_by nests read line later start.Code = indented line later
block_by nests read line later (start.Fence fence) = fence_block fence later
block_by nests read line later start.ThematicBreak = one_line (Single event.Rule)
block_by nests read line later (start.Heading level) = one_line (heading_node (heading_at level line))
block_by nests read line later start.Quote = quote read line later
block_by nests read line later (start.Footnote label) = footnote read label line later
block_by nests read line later (start.Item marker) = list read marker line later
block_by nests read line later (start.Html end) = html_block end line later
block_by nests read line later start.Table = table nests line later
block_by nests read line later start.Definitions = definitions read line later
block_by nests read line later start.Paragraph = paragraph nests line later

-- the block at a nonempty line, which later lines follow
abbrev pub block : Bool → (Bool → List LineText → Nodes) → LineText → List LineText → Block
block nests read line later = block_by nests read line later (block_start nests All line later)

-- the blocks of lines after the first so many; empty lines between blocks are passed over
unfoldable pub blocks_after : Bool → (Bool → List LineText → Nodes) → Bool → ℕ → List LineText → Nodes
blocks_after nests read tight n [] = Empty
blocks_after nests read tight (suc n) (line ∷ later) = blocks_after nests read tight n later
blocks_after nests read tight zero (line ∷ later) =
    if is_empty line then blocks_after nests read tight zero later
    else node_then tight (block nests read line later).node (blocks_after nests read tight (block nests read line later).more later)

-- The blocks of lines in which containers may stand so many levels deep. In an item of a tight list the paragraphs among
-- them are runs of inlines.
unfoldable pub blocks : ℕ → Bool → List LineText → Nodes
blocks zero tight lines = blocks_after false (λ t ls. Empty) tight 0 lines
blocks (suc n) tight lines = blocks_after true (λ t ls. blocks n t ls) tight 0 lines

-- the metadata of a document, if its lines begin with it, and the blocks of the rest, in which containers may stand 32 levels
-- deep
abbrev pub document : List LineText → Nodes
document lines = metadata_then (metadata_in lines) lines (blocks 32 false (drop (metadata_lines (metadata_in lines)) lines))

-- the tree of a text
abbrev pub tree : List ℕ → Nodes
tree text = document (lines_of text)
