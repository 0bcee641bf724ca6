-- Tables: a head and rows of cells.
use Rattle.std.specs.Prelude.{ℕ, suc, Bool, List, [], ◌∷◌, drop, take}
use Rattle.md_tree.specs.declared.event.Tag.TheVariants as tag
use Rattle.md_tree.specs.Tree.{Nodes, Empty, Branch}
use Rattle.md_lines.specs.Lines.{LineText}
use Rattle.md_inline.specs.Inlines.{inlines}
use Rattle.term_text.specs.declared.alignment.Alignment.{Alignment}
use Rattle.md_rules.specs.Rows.{row_count}
use Rattle.md_rules.specs.Tables.{alignments, cells}
use Rattle.md_events.specs.Node.{Block, Element}

-- cells, the source of each being one line
abbrev pub cell_nodes : List (List ℕ) → Nodes
cell_nodes [] = Empty
cell_nodes (cell ∷ others) = Branch tag.TableCell (inlines (cell ∷ [])) (cell_nodes others)

-- a row keeps all its cells
abbrev pub row_nodes : List LineText → Nodes
row_nodes [] = Empty
row_nodes (line ∷ lines) = Branch tag.TableRow (cell_nodes (cells line)) (row_nodes lines)

-- the alignments are told by the line below the header
abbrev pub sides : List LineText → List Alignment
sides [] = []
sides (next ∷ later) = alignments next

-- the rows that follow that line
abbrev pub rows : Bool → List LineText → List LineText
rows nests later = take (row_count nests (drop 1 later)) (drop 1 later)

-- the table whose header is a line
abbrev pub table : Bool → LineText → List LineText → Block
table nests line later =
    record {
      node = Element (tag.Table (sides later)) (Branch tag.TableHead (cell_nodes (cells line)) (row_nodes (rows nests later)));
      more = suc (row_count nests (drop 1 later));
    }
