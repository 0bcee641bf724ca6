-- What begins at a nonempty line.
use Rattle.std.specs.Prelude.{ℕ, nat_le, Bool, true, false, ◌&&◌, Option, None, Some, List, if◌then◌else◌}
use Rattle.md_tree.specs.declared.event.HeadingLevel.{HeadingLevel}
use Rattle.md_lines.specs.Lines.{LineText}
use Rattle.md_rules.specs.Code.{is_code}
use Rattle.md_rules.specs.Fences.{fence_of}
use Rattle.md_rules.specs.ThematicBreaks.{is_thematic_break}
use Rattle.md_rules.specs.Headings.{heading_level}
use Rattle.md_rules.specs.Quotes.{quotes}
use Rattle.md_rules.specs.Items.{may_interrupt, marker_of}
use Rattle.md_rules.specs.Footnotes.{footnote_label}
use Rattle.md_rules.specs.Html.{html_end}
use Rattle.md_rules.specs.Tables.{starts_table}
use Rattle.md_rules.specs.Definitions.{starts_definitions}
use Rattle.md_rules.specs.declared.fence.Fence.{Fence}
use Rattle.md_rules.specs.declared.html.HtmlEnd.{HtmlEnd}
use Rattle.md_rules.specs.declared.item.Marker.{Marker}
use Rattle.md_rules.specs.declared.rule.Rule.{Rule}
use Rattle.md_rules.specs.declared.rule.Rule.TheVariants as rule
use Rattle.md_rules.specs.declared.start.Items.{Items}
use Rattle.md_rules.specs.declared.start.Items.TheVariants.{All, Interrupting}
use Rattle.md_rules.specs.declared.start.BlockStart.{BlockStart}
use Rattle.md_rules.specs.declared.start.BlockStart.TheVariants as start

-- ---- the item at a line, where it counts: a paragraph is ended by some items alone

abbrev pub counts : Items → LineText → Marker → Bool
counts All line marker = true
counts Interrupting line marker = may_interrupt line marker

abbrev pub counted : Items → LineText → Option Marker → Option Marker
counted items line None = None
counted items line (Some marker) = if counts items line marker then Some marker else None

abbrev pub item_start : Items → LineText → Option Marker
item_start items line = counted items line (marker_of line)

-- ---- the first rule that holds at a line, which later lines follow

abbrev pub fence_or : Option Fence → BlockStart → BlockStart
fence_or (Some fence) others = start.Fence fence
fence_or None others = others

abbrev pub heading_or : Option HeadingLevel → BlockStart → BlockStart
heading_or (Some level) others = start.Heading level
heading_or None others = others

abbrev pub footnote_or : Option (List ℕ) → BlockStart → BlockStart
footnote_or (Some label) others = start.Footnote label
footnote_or None others = others

abbrev pub item_or : Option Marker → BlockStart → BlockStart
item_or (Some marker) others = start.Item marker
item_or None others = others

abbrev pub html_or : Option HtmlEnd → BlockStart → BlockStart
html_or (Some end) others = start.Html end
html_or None others = others

-- the rules that are asked where no quote, footnote or item begins; definition lists begin where containers may stand
abbrev pub start_of_text : Bool → LineText → List LineText → BlockStart
start_of_text nests line later =
    html_or (html_end line)
    (if starts_table line later then start.Table
    else if nests && starts_definitions line later then start.Definitions
    else start.Paragraph)

-- quotes, footnote definitions and items, where containers may stand
abbrev pub container_or : Bool → Items → LineText → BlockStart → BlockStart
container_or false items line others = others
container_or true items line others = if quotes line then start.Quote else footnote_or (footnote_label line) (item_or (item_start items line) others)

abbrev pub block_start : Bool → Items → LineText → List LineText → BlockStart
block_start nests items line later =
    if is_code line then start.Code
    else fence_or (fence_of line)
    (if is_thematic_break line then start.ThematicBreak
    else heading_or (heading_level line) (container_or nests items line (start_of_text nests line later)))

-- ---- ranges of rules

-- the rule by which it begins
abbrev pub rule_of : BlockStart → Rule
rule_of start.Code = rule.Code
rule_of (start.Fence fence) = rule.Fence
rule_of start.ThematicBreak = rule.ThematicBreak
rule_of (start.Heading level) = rule.Heading
rule_of start.Quote = rule.Quote
rule_of (start.Footnote label) = rule.Footnote
rule_of (start.Item marker) = rule.Item
rule_of (start.Html end) = rule.Html
rule_of start.Table = rule.Table
rule_of start.Definitions = rule.Definitions
rule_of start.Paragraph = rule.Paragraph

-- the rules in their order
abbrev pub place : Rule → ℕ
place rule.Code = 0
place rule.Fence = 1
place rule.ThematicBreak = 2
place rule.Heading = 3
place rule.Quote = 4
place rule.Footnote = 5
place rule.Item = 6
place rule.Html = 7
place rule.Table = 8
place rule.Definitions = 9
place rule.Paragraph = 10

-- one of the rules from the one to the other
abbrev pub is_among : Rule → Rule → Rule → Bool
is_among first last r = nat_le (place first) (place r) && nat_le (place r) (place last)

-- a line at which a paragraph ends, since another block begins there
abbrev pub interrupts : Bool → LineText → List LineText → Bool
interrupts nests line later = is_among rule.Fence rule.Definitions (rule_of (block_start nests Interrupting line later))
