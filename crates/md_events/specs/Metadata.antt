-- Metadata at a document's start.
use Rattle.std.specs.Prelude.{ℕ, Option, None, Some, List, [], ◌∷◌, drop, take}
use Rattle.md_tree.specs.declared.event.Event.TheVariants as event
use Rattle.md_tree.specs.declared.event.Tag.TheVariants as tag
use Rattle.md_tree.specs.Tree.{Nodes, Empty, Leaf, Branch}
use Rattle.md_lines.specs.Lines.{LineText}
use Rattle.md_rules.specs.Code.{text_from}
use Rattle.md_events.specs.declared.kept.Kept.TheVariants.{Text}
use Rattle.md_events.specs.Kept.{kept_then}

-- further lines of content: a soft break, and the line's text if that is not empty
unfoldable pub further_texts : List LineText → Nodes
further_texts [] = Empty
further_texts (line ∷ lines) = Leaf event.SoftBreak (kept_then Text (text_from 0 line) (further_texts lines))

-- the lines of content, with a soft break between two of them
abbrev pub metadata_texts : List LineText → Nodes
metadata_texts [] = Empty
metadata_texts (line ∷ lines) = kept_then Text (text_from 0 line) (further_texts lines)

-- the metadata that lines begin with, if they do, with so many lines of content behind the first, and then other nodes
abbrev pub metadata_then : Option ℕ → List LineText → Nodes → Nodes
metadata_then None lines rest = rest
metadata_then (Some n) lines rest = Branch tag.MetadataBlock (metadata_texts (take n (drop 1 lines))) rest
