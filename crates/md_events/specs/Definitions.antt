-- Definition lists: titles and descriptions.
use Rattle.std.specs.Prelude.{ℕ, zero, suc, Bool, not, Option, None, Some, List, [], ◌∷◌, take, if◌then◌else◌}
use Rattle.md_tree.specs.declared.event.Tag.{Tag}
use Rattle.md_tree.specs.declared.event.Tag.TheVariants as tag
use Rattle.md_tree.specs.Tree.{Nodes, Empty, Branch}
use Rattle.md_lines.specs.Lines.{LineText, is_empty}
use Rattle.md_inline.specs.Inlines.{inlines}
use Rattle.md_rules.specs.declared.entry.Entry.{Entry}
use Rattle.md_rules.specs.declared.entry.Entry.TheVariants.{Title, Description}
use Rattle.md_rules.specs.Definitions.{description_lines, title_of}
use Rattle.md_rules.specs.Entries.{entries_more, entry_more, next_entry}
use Rattle.md_rules.specs.Lists.{is_loose}
use Rattle.md_events.specs.Node.{Block, Element}

-- The lines of a container are read by a function that is given, as in Containers.

abbrev pub entry_tag : Entry → Tag
entry_tag Title = tag.DefinitionListTitle
entry_tag Description = tag.DefinitionListDefinition

-- what stands in a title: its source is its line, trimmed
abbrev pub in_title : LineText → Nodes
in_title line = inlines ((title_of line).body ∷ [])

-- What stands in a description that has these further lines. It is loose if one of them is empty, since the first of all its
-- lines has the colon, and the last is not empty.
abbrev pub in_description : (Bool → List LineText → Nodes) → LineText → List LineText → Nodes
in_description read line own = read (not (is_loose own)) (description_lines line own)

abbrev pub in_entry : (Bool → List LineText → Nodes) → Entry → LineText → List LineText → Nodes
in_entry read Title line own = in_title line
in_entry read Description line own = in_description read line own

abbrev pub entry_then : Option Entry → (Entry → Nodes) → (Entry → Nodes) → Nodes
entry_then None inside rest = Empty
entry_then (Some entry) inside rest = Branch (entry_tag entry) (inside entry) (rest entry)

-- the entries of a definition list from the lines after the first so many on; empty lines between them are passed over
unfoldable pub entries : (Bool → List LineText → Nodes) → ℕ → List LineText → Nodes
entries read n [] = Empty
entries read (suc n) (line ∷ later) = entries read n later
entries read zero (line ∷ later) =
    if is_empty line then entries read zero later
    else entry_then (next_entry line later)
    (λ entry. in_entry read entry line (take (entry_more entry line later) later))
    (λ entry. entries read (entry_more entry line later) later)

-- a definition list begins with a title
abbrev pub definitions : (Bool → List LineText → Nodes) → LineText → List LineText → Block
definitions read line later =
    record {
      node = Element tag.DefinitionList (Branch tag.DefinitionListTitle (in_title line) (entries read 0 later));
      more = entries_more 0 later;
    }
