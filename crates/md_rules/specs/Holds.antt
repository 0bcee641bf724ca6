-- Which rules hold at a line, each by itself, for the laws on what begins there.
use Rattle.std.specs.Prelude.{⊤, ◌≡◌, ◌<◌, Bool, true, false, ◌&&◌, is_some, List}
use Rattle.md_lines.specs.Lines.{LineText}
use Rattle.md_rules.specs.Code.{is_code}
use Rattle.md_rules.specs.Fences.{fence_of}
use Rattle.md_rules.specs.ThematicBreaks.{is_thematic_break}
use Rattle.md_rules.specs.Headings.{heading_level}
use Rattle.md_rules.specs.Quotes.{quotes}
use Rattle.md_rules.specs.Items.{may_interrupt}
use Rattle.md_rules.specs.Footnotes.{footnote_label}
use Rattle.md_rules.specs.Html.{html_end}
use Rattle.md_rules.specs.Tables.{starts_table}
use Rattle.md_rules.specs.Definitions.{starts_definitions}
use Rattle.md_rules.specs.Starts.{item_start, place, rule_of}
use Rattle.md_rules.specs.declared.rule.Rule.{Rule}
use Rattle.md_rules.specs.declared.rule.Rule.TheVariants as rule
use Rattle.md_rules.specs.declared.start.Items.{Items}
use Rattle.md_rules.specs.declared.start.BlockStart.{BlockStart}
use Rattle.md_rules.specs.declared.start.BlockStart.TheVariants as start

-- a rule holds at a nonempty line that later lines follow; that for paragraphs always does
abbrev pub holds : Bool → Items → LineText → List LineText → Rule → Bool
holds nests items line later rule.Code = is_code line
holds nests items line later rule.Fence = is_some (fence_of line)
holds nests items line later rule.ThematicBreak = is_thematic_break line
holds nests items line later rule.Heading = is_some (heading_level line)
holds nests items line later rule.Quote = nests && quotes line
holds nests items line later rule.Footnote = nests && is_some (footnote_label line)
holds nests items line later rule.Item = nests && is_some (item_start items line)
holds nests items line later rule.Html = is_some (html_end line)
holds nests items line later rule.Table = starts_table line later
holds nests items line later rule.Definitions = nests && starts_definitions line later
holds nests items line later rule.Paragraph = true

-- it begins by the first rule that holds
abbrev pub IsFirst : Bool → Items → LineText → List LineText → BlockStart → Type 0
IsFirst nests items line later s =
    (holds nests items line later (rule_of s) ≡ true)
    × ((r : Rule) → place r < place (rule_of s) → holds nests items line later r ≡ false)

-- what may begin at a line that goes on with a paragraph: text, code, or an item that does not end one
abbrev pub GoesOn : LineText → BlockStart → Type 0
GoesOn line start.Code = ⊤
GoesOn line start.Paragraph = ⊤
GoesOn line (start.Item marker) = may_interrupt line marker ≡ false
GoesOn line _ = ⊥
