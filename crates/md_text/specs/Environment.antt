-- What the layout hands down, and what it passes along.
use Rattle.std.specs.Prelude.{ℕ, ◌+◌, Bool, true, false, if◌then◌else◌, Option, None, Some}
use Rattle.term_text.specs.declared.style.Style.{Style}
use Rattle.term_text.specs.Style.{no_style, patch, with_modifier}
use Rattle.md_tree.specs.declared.event.BlockQuoteKind.{BlockQuoteKind}
use Rattle.md_tree.specs.declared.event.Event.TheVariants as event
use Rattle.md_tree.specs.declared.event.Tag.{Tag}
use Rattle.md_tree.specs.declared.event.Tag.TheVariants as tag
use Rattle.md_tree.specs.Tree.{Nodes, Empty, Leaf, Branch}
use Rattle.md_table.specs.Defaults.{bold, dim, italic}
use Rattle.md_table.specs.Sheet.{Sheet}
use Rattle.md_text.specs.declared.environment.Environment.{Environment}
use Rattle.md_text.specs.declared.environment.Spacing.{Spacing}
use Rattle.md_text.specs.declared.environment.Fresh.TheVariants.{No}
use Rattle.md_text.specs.declared.environment.Within.TheVariants.{Lines, Code, Cell, Image}
use Rattle.md_text.specs.Alerts.{alert_of}
use Rattle.md_text.specs.Markers.{marker_width, number_after}

-- a document stands in no quote, list and item, and sets no style; its leaves stand in lines
abbrev pub first_environment : Environment
first_environment =
    record {
      quotes = 0;
      line_style = no_style;
      inline_style = no_style;
      depth = 0;
      number = None;
      item_width = 0;
      within = Lines;
      in_metadata = false;
    }

-- before the first block no line is due, and none was opened
abbrev pub first_spacing : Spacing
first_spacing = record { due = false; fresh = No; any_line = false }

abbrev pub crossed_out : Style → Style
crossed_out style = with_modifier style (record { 0 = 256 })

-- the inline style with another one over it
abbrev pub styled : Environment → Style → Environment
styled env style = record env { inline_style = patch env.inline_style style }

-- the style under the lines of a quote, or of an alert
abbrev pub quote_style : Sheet → Option BlockQuoteKind → Style
quote_style sheet None = sheet.blockquote
quote_style sheet (Some kind) = sheet.alert (alert_of kind)

-- whether the nodes of an item begin with a task mark, which may also stand first in the item's first paragraph
abbrev pub begins_with_task : Nodes → Bool
begins_with_task Empty = false
begins_with_task (Leaf (event.TaskListMarker is_done) rest) = true
begins_with_task (Leaf e rest) = false
begins_with_task (Branch tag.Paragraph inside rest) = begins_with_task inside
begins_with_task (Branch tag inside rest) = false

-- an item is as wide as its marker, and as its task mark if it begins with one
abbrev pub with_task : ℕ → Nodes → ℕ
with_task width inside = if begins_with_task inside then width + 4 else width

-- inside an element with these nodes: quotes add a mark and set the line style, lists are one deeper and begin at their number,
-- items have a width, footnotes and metadata set the line style, styled inlines, links, titles and descriptions patch the
-- inline style, leaves in a block of code or HTML are its content, those in a table its cells and those in an image its
-- description, in metadata a soft break begins a line, and others leave all as it is
abbrev pub environment_inside : Sheet → Environment → Tag → Nodes → Environment
environment_inside sheet env (tag.BlockQuote kind) inside = record env { quotes = env.quotes + 1; line_style = quote_style sheet kind }
environment_inside sheet env (tag.List start) inside = record env { depth = env.depth + 1; number = start }
environment_inside sheet env tag.Item inside = record env { item_width = with_task (marker_width env.depth env.number) inside }
environment_inside sheet env tag.Emphasis inside = styled env (italic no_style)
environment_inside sheet env tag.Strong inside = styled env (bold no_style)
environment_inside sheet env tag.Strikethrough inside = styled env (crossed_out no_style)
environment_inside sheet env tag.Superscript inside = styled env (italic (dim no_style))
environment_inside sheet env tag.Subscript inside = styled env (italic (dim no_style))
environment_inside sheet env (tag.Link dest) inside = styled env sheet.link
environment_inside sheet env (tag.Image dest) inside = record (styled env sheet.image_alt) { within = Image }
environment_inside sheet env (tag.CodeBlock kind) inside = record env { within = Code }
environment_inside sheet env tag.HtmlBlock inside = record env { within = Code }
environment_inside sheet env (tag.FootnoteDefinition label) inside = record env { line_style = sheet.footnote_def }
environment_inside sheet env tag.DefinitionListTitle inside = styled env sheet.definition_term
environment_inside sheet env tag.DefinitionListDefinition inside = styled env sheet.definition_description
environment_inside sheet env tag.MetadataBlock inside = record env { line_style = sheet.metadata_block; in_metadata = true }
environment_inside sheet env (tag.Table alignments) inside = record env { within = Cell }
environment_inside sheet env _ inside = env

-- behind an element all is as before it, but that an item is followed by the list's next number
abbrev pub environment_after : Environment → Tag → Environment
environment_after env tag.Item = record env { number = number_after env.number }
environment_after env _ = env
