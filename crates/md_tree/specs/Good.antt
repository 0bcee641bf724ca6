-- Good trees: which nodes may stand where.
use Rattle.std.specs.Prelude.{ℕ, ◌+◌, ◌-◌, ◌^◌, ◌==◌, if◌then◌else◌, Bool, true, false, not, ◌&&◌, Option, None, Some}
use Rattle.md_tree.specs.declared.event.Event.{Event}
use Rattle.md_tree.specs.declared.event.Event.TheVariants as event
use Rattle.md_tree.specs.declared.event.Tag.{Tag}
use Rattle.md_tree.specs.declared.event.Tag.TheVariants as tag
use Rattle.md_tree.specs.declared.place.Holds.{Holds}
use Rattle.md_tree.specs.declared.place.Holds.TheVariants as level
use Rattle.md_tree.specs.declared.place.Numbers.{Numbers}
use Rattle.md_tree.specs.declared.place.Numbers.TheVariants.{Free, Next, Full}
use Rattle.md_tree.specs.declared.place.Place.{Place}
use Rattle.md_tree.specs.Tree.{Nodes, Empty, Leaf, Branch}

-- documents, quotes and footnotes hold blocks; items and descriptions hold blocks and runs of inlines
abbrev pub holds_blocks : Holds → Bool
holds_blocks level.Blocks = true
holds_blocks level.Mixed = true
holds_blocks _ = false

abbrev pub holds_inlines : Holds → Bool
holds_inlines level.Inlines = true
holds_inlines level.Mixed = true
holds_inlines _ = false

abbrev pub holds_items : Holds → Bool
holds_items level.Items = true
holds_items _ = false

abbrev pub holds_entries : Holds → Bool
holds_entries level.Entries = true
holds_entries _ = false

abbrev pub holds_head : Holds → Bool
holds_head level.Head = true
holds_head _ = false

abbrev pub holds_rows : Holds → Bool
holds_rows level.Rows = true
holds_rows _ = false

abbrev pub holds_cells : Holds → Bool
holds_cells level.Cells = true
holds_cells _ = false

-- texts stand among inlines, in code and in metadata
abbrev pub holds_text : Holds → Bool
holds_text level.Inlines = true
holds_text level.Mixed = true
holds_text level.CodeTexts = true
holds_text level.MetadataTexts = true
holds_text _ = false

-- soft breaks stand among inlines and in metadata
abbrev pub holds_soft_break : Holds → Bool
holds_soft_break level.Inlines = true
holds_soft_break level.Mixed = true
holds_soft_break level.MetadataTexts = true
holds_soft_break _ = false

-- the lines of an HTML block stand nowhere else
abbrev pub holds_html : Holds → Bool
holds_html level.HtmlTexts = true
holds_html _ = false

abbrev pub is_full : Numbers → Bool
is_full Full = true
is_full _ = false

-- the elements that may stand at a place
abbrev pub may_stand : Place → Tag → Bool
may_stand p tag.Paragraph = holds_blocks p.holds
may_stand p (tag.Heading h id classes attrs) = holds_blocks p.holds
may_stand p (tag.BlockQuote kind) = holds_blocks p.holds
may_stand p (tag.CodeBlock kind) = holds_blocks p.holds
may_stand p tag.HtmlBlock = holds_blocks p.holds
may_stand p (tag.List start) = holds_blocks p.holds
may_stand p tag.Item = holds_items p.holds && not (is_full p.numbers)
may_stand p (tag.FootnoteDefinition label) = holds_blocks p.holds
may_stand p tag.DefinitionList = holds_blocks p.holds
may_stand p tag.DefinitionListTitle = holds_entries p.holds
may_stand p tag.DefinitionListDefinition = holds_entries p.holds
may_stand p (tag.Table alignments) = holds_blocks p.holds
may_stand p tag.TableHead = holds_head p.holds
may_stand p tag.TableRow = holds_rows p.holds
may_stand p tag.TableCell = holds_cells p.holds
may_stand p tag.Emphasis = holds_inlines p.holds
may_stand p tag.Strong = holds_inlines p.holds
may_stand p tag.Strikethrough = holds_inlines p.holds
may_stand p tag.Superscript = holds_inlines p.holds
may_stand p tag.Subscript = holds_inlines p.holds
may_stand p (tag.Link dest) = holds_inlines p.holds && not p.in_link
may_stand p (tag.Image dest) = holds_inlines p.holds
may_stand p tag.MetadataBlock = holds_blocks p.holds

-- the leaves that may stand at a place
abbrev pub may_hold : Place → Event → Bool
may_hold p (event.Text text) = holds_text p.holds
may_hold p (event.Code text) = holds_inlines p.holds
may_hold p (event.Html text) = holds_html p.holds
may_hold p (event.InlineHtml text) = holds_inlines p.holds
may_hold p (event.InlineMath text) = holds_inlines p.holds
may_hold p (event.DisplayMath text) = holds_inlines p.holds
may_hold p (event.FootnoteReference label) = holds_inlines p.holds
may_hold p event.SoftBreak = holds_soft_break p.holds
may_hold p event.HardBreak = holds_inlines p.holds
may_hold p event.Rule = holds_blocks p.holds
may_hold p (event.TaskListMarker is_done) = holds_inlines p.holds && p.task_mark
may_hold p (event.Start t) = false
may_hold p (event.End e) = false

-- a level may end anywhere, but a table not before its head
abbrev pub may_end : Place → Bool
may_end p = not (holds_head p.holds)

-- the first place of a level outside links, without numbers and without a task mark
abbrev pub level_of : Holds → Place
level_of h = record { holds = h; in_link = false; numbers = Free; task_mark = false }

abbrev pub document_place : Place
document_place = level_of level.Blocks

-- the first place among inlines, inside a link or not
abbrev pub among_inlines : Bool → Place
among_inlines in_link = record { holds = level.Inlines; in_link = in_link; numbers = Free; task_mark = false }

abbrev pub numbers_from : Option ℕ → Numbers
numbers_from None = Free
numbers_from (Some n) = Next n

-- the first place inside an element: a task mark may come first in an item, and in the paragraph that an item begins with
abbrev pub place_inside : Place → Tag → Place
place_inside p tag.Paragraph = record { holds = level.Inlines; in_link = false; numbers = Free; task_mark = p.task_mark }
place_inside p (tag.Heading h id classes attrs) = level_of level.Inlines
place_inside p (tag.BlockQuote kind) = level_of level.Blocks
place_inside p (tag.CodeBlock kind) = level_of level.CodeTexts
place_inside p tag.HtmlBlock = level_of level.HtmlTexts
place_inside p (tag.List start) =
    record { holds = level.Items; in_link = false; numbers = numbers_from start; task_mark = false }
place_inside p tag.Item = record { holds = level.Mixed; in_link = false; numbers = Free; task_mark = true }
place_inside p (tag.FootnoteDefinition label) = level_of level.Blocks
place_inside p tag.DefinitionList = level_of level.Entries
place_inside p tag.DefinitionListTitle = level_of level.Inlines
place_inside p tag.DefinitionListDefinition = level_of level.Mixed
place_inside p (tag.Table alignments) = level_of level.Head
place_inside p tag.TableHead = level_of level.Cells
place_inside p tag.TableRow = level_of level.Cells
place_inside p tag.TableCell = level_of level.Inlines
place_inside p tag.Emphasis = among_inlines p.in_link
place_inside p tag.Strong = among_inlines p.in_link
place_inside p tag.Strikethrough = among_inlines p.in_link
place_inside p tag.Superscript = among_inlines p.in_link
place_inside p tag.Subscript = among_inlines p.in_link
place_inside p (tag.Link dest) = among_inlines true
place_inside p (tag.Image dest) = among_inlines p.in_link
place_inside p tag.MetadataBlock = level_of level.MetadataTexts

-- the item numbers go up by one, and none comes after the last `u64`
abbrev pub numbers_after : Numbers → Numbers
numbers_after Free = Free
numbers_after (Next n) = if n == 2 ^ 64 - 1 then Full else Next (n + 1)
numbers_after Full = Full

-- no task mark stands behind a node
abbrev pub place_after_leaf : Place → Place
place_after_leaf p = record { holds = p.holds; in_link = p.in_link; numbers = p.numbers; task_mark = false }

-- the place behind an element: behind an item the next number, behind a table's head its rows
abbrev pub place_after : Place → Tag → Place
place_after p tag.Item =
    record { holds = p.holds; in_link = p.in_link; numbers = numbers_after p.numbers; task_mark = false }
place_after p tag.TableHead = record { holds = level.Rows; in_link = p.in_link; numbers = p.numbers; task_mark = false }
place_after p _ = place_after_leaf p

-- each element and each leaf may stand where it stands, and each level may end where it ends
abbrev pub good_at : Place → Nodes → Bool
good_at p Empty = may_end p
good_at p (Leaf e rest) = may_hold p e && good_at (place_after_leaf p) rest
good_at p (Branch t inside rest) =
    may_stand p t && (good_at (place_inside p t) inside && good_at (place_after p t) rest)

-- a tree is good if its nodes may stand in a document
abbrev pub good : Nodes → Bool
good t = good_at document_place t
