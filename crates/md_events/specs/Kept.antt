-- Lines that are kept as they are: those of code and of HTML.
use Rattle.std.specs.Prelude.{ℕ, List, [], ◌∷◌}
use Rattle.md_tree.specs.declared.event.Event.{Event}
use Rattle.md_tree.specs.declared.event.Event.TheVariants as event
use Rattle.md_tree.specs.Tree.{Nodes, Empty, Leaf}
use Rattle.md_lines.specs.Lines.{LineText}
use Rattle.md_rules.specs.Code.{text_from}
use Rattle.md_events.specs.declared.kept.Kept.{Kept}
use Rattle.md_events.specs.declared.kept.Kept.TheVariants as kept

-- a part of such a line
abbrev pub leaf_of : Kept → List ℕ → Event
leaf_of kept.Text text = event.Text text
leaf_of kept.Html text = event.Html text

-- a part before other nodes, if it is not empty
abbrev pub kept_then : Kept → List ℕ → Nodes → Nodes
kept_then k [] rest = rest
kept_then k (b ∷ bs) rest = Leaf (leaf_of k (b ∷ bs)) rest

-- a line's text from a column on, and LF
abbrev pub kept_line : Kept → ℕ → LineText → Nodes → Nodes
kept_line k column line rest = kept_then k (text_from column line) (Leaf (leaf_of k (10 ∷ [])) rest)

unfoldable pub kept_lines : Kept → ℕ → List LineText → Nodes
kept_lines k column [] = Empty
kept_lines k column (line ∷ lines) = kept_line k column line (kept_lines k column lines)
