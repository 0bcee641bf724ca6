-- Blocks of code.
use Rattle.std.specs.Prelude.{List, ◌∷◌, take}
use Rattle.md_tree.specs.declared.event.CodeBlockKind.TheVariants.{Indented, Fenced}
use Rattle.md_tree.specs.declared.event.Tag.TheVariants as tag
use Rattle.md_lines.specs.Lines.{LineText}
use Rattle.md_rules.specs.declared.fence.Fence.{Fence}
use Rattle.md_rules.specs.Code.{hanging}
use Rattle.md_rules.specs.Fences.{fence_more, fenced}
use Rattle.md_events.specs.declared.kept.Kept.TheVariants.{Text}
use Rattle.md_events.specs.Kept.{kept_lines}
use Rattle.md_events.specs.Node.{Node, Block, Element}

-- code by its indent takes this line and those that hang below with an indent of at least 4
abbrev pub indented : LineText → List LineText → Block
indented line later =
    record {
      node = Element (tag.CodeBlock Indented) (kept_lines Text 4 (line ∷ take (hanging 4 later) later));
      more = hanging 4 later;
    }

-- a fence takes the lines up to the one that closes it, whose texts from the fence's indent on are its content
abbrev pub fence_node : Fence → List LineText → Node
fence_node fence later =
    Element (tag.CodeBlock (Fenced fence.info)) (kept_lines Text fence.indent (take (fenced fence later) later))

abbrev pub fence_block : Fence → List LineText → Block
fence_block fence later = record { node = fence_node fence later; more = fence_more fence later }
