pub use Rattle.term_text.specs.LineEnds
pub use Rattle.md_tree.specs.Tree
pub use Rattle.md_tree.specs.Good
pub use Rattle.md_tree.specs.Parse
pub use Rattle.md_lines.specs.Blanks
pub use Rattle.md_lines.specs.Lines
pub use Rattle.md_leaves.specs.Leaves
pub use Rattle.md_runs.specs.Source
pub use Rattle.md_runs.specs.Nest
pub use Rattle.md_runs.specs.Texts
pub use Rattle.md_inline.specs.Inlines
pub use Rattle.md_rules.specs.Texts as LineTexts
pub use Rattle.md_rules.specs.Shallow
pub use Rattle.md_rules.specs.Attributes
pub use Rattle.md_rules.specs.Headings
pub use Rattle.md_rules.specs.Code
pub use Rattle.md_rules.specs.Fences
pub use Rattle.md_rules.specs.ThematicBreaks
pub use Rattle.md_rules.specs.Quotes
pub use Rattle.md_rules.specs.Metadata as LineMetadata
pub use Rattle.md_rules.specs.Footnotes
pub use Rattle.md_rules.specs.Html
pub use Rattle.md_rules.specs.Items
pub use Rattle.md_rules.specs.Tables as LineTables
pub use Rattle.md_rules.specs.Starts
pub use Rattle.md_rules.specs.Lists
pub use Rattle.md_rules.specs.Definitions as LineDefinitions
pub use Rattle.md_rules.specs.Entries
pub use Rattle.md_rules.specs.Rows
pub mod Node
pub mod Kept
pub mod CodeBlocks
pub mod HtmlBlocks
pub mod Containers
pub mod Tables
pub mod Definitions
pub mod Metadata
pub mod Blocks
pub mod Taken
pub mod Written
