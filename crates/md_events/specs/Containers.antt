-- Blocks that hold blocks: quotes, footnote definitions and lists.
use Rattle.std.specs.Prelude.{ℕ, zero, suc, Bool, true, false, not, Option, None, Some, List, [], ◌∷◌, length, take, if◌then◌else◌}
use Rattle.md_tree.specs.declared.event.Event.TheVariants as event
use Rattle.md_tree.specs.declared.event.Tag.TheVariants as tag
use Rattle.md_tree.specs.Tree.{Nodes, Empty, Leaf, Branch}
use Rattle.md_lines.specs.Lines.{LineText, is_empty}
use Rattle.md_rules.specs.declared.item.Marker.{Marker}
use Rattle.md_rules.specs.Quotes.{first_alert, quoted, without_kind}
use Rattle.md_rules.specs.Footnotes.{footnote_lines, footnote_more}
use Rattle.md_rules.specs.Items.{item_column, item_line, item_lines, item_more, task_of}
use Rattle.md_rules.specs.Lists.{is_loose, list_more, next_item}
use Rattle.md_events.specs.Node.{Block, Element}

-- The lines of a container are read by a function that is given: of whether its paragraphs are runs of inlines, since it
-- is an item of a tight list, and of the lines.

-- the lines of a quote, without the one that names an alert's kind
abbrev pub inside_quote : List LineText → List LineText
inside_quote lines = without_kind (first_alert lines) lines

-- a quote takes the run of lines that it goes on at
abbrev pub quote : (Bool → List LineText → Nodes) → LineText → List LineText → Block
quote read line later =
    record {
      node = Element (tag.BlockQuote (first_alert (quoted (line ∷ later)))) (read false (inside_quote (quoted (line ∷ later))));
      more = length (quoted later);
    }

-- a footnote definition takes its line and those that hang below it with an indent of at least 4
abbrev pub footnote : (Bool → List LineText → Nodes) → List ℕ → LineText → List LineText → Block
footnote read label line later =
    record {
      node = Element (tag.FootnoteDefinition label) (read false (footnote_lines label line (take (footnote_more later) later)));
      more = footnote_more later;
    }

-- a task mark is the first inline of the paragraph that the nodes begin with, and else stands before them
abbrev pub mark_then : Bool → Nodes → Nodes
mark_then done (Branch tag.Paragraph inside rest) = Branch tag.Paragraph (Leaf (event.TaskListMarker done) inside) rest
mark_then done nodes = Leaf (event.TaskListMarker done) nodes

-- the nodes of an item with its task mark; where it begins with a run of inlines, the mark is the first of these
abbrev pub with_task : Bool → Option Bool → Nodes → Nodes
with_task tight None nodes = nodes
with_task true (Some done) nodes = Leaf (event.TaskListMarker done) nodes
with_task false (Some done) nodes = mark_then done nodes

-- what stands in an item that has so many further lines
abbrev pub in_item : (Bool → List LineText → Nodes) → Bool → Marker → LineText → List LineText → Nodes
in_item read tight marker line own =
    with_task tight (task_of (item_line marker line)) (read tight (item_lines (item_column marker line) (item_line marker line) own))

abbrev pub item_then : Option Marker → (Marker → Nodes) → (Marker → Nodes) → Nodes
item_then None inside rest = Empty
item_then (Some marker) inside rest = Branch tag.Item (inside marker) (rest marker)

-- the items of a list of this kind from the lines after the first so many on; empty lines between them are passed over
unfoldable pub items : (Bool → List LineText → Nodes) → Bool → ℕ → ℕ → List LineText → Nodes
items read tight kind n [] = Empty
items read tight kind (suc n) (line ∷ later) = items read tight kind n later
items read tight kind zero (line ∷ later) =
    if is_empty line then items read tight kind zero later
    else item_then (next_item kind line)
    (λ marker. in_item read tight marker line (take (item_more marker line later) later))
    (λ marker. items read tight kind (item_more marker line later) later)

-- how many lines the list takes that begins with an item
abbrev pub list_lines : Marker → LineText → List LineText → ℕ
list_lines marker line later = list_more marker.kind (item_more marker line later) later

-- a list begins with its first item's number, and is tight if no empty line stands in it
abbrev pub list : (Bool → List LineText → Nodes) → Marker → LineText → List LineText → Block
list read marker line later =
    record {
      node = Element (tag.List marker.number) (items read (not (is_loose (take (list_lines marker line later) later))) marker.kind 0 (line ∷ later));
      more = list_lines marker line later;
    }
