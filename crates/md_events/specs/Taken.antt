-- What becomes of each line, for the law that none is lost.
use Rattle.std.specs.Prelude.{◌≡◌, Bool, true, false, List, [], ◌∷◌, ◌++◌, length}
use Rattle.md_tree.specs.Tree.{Nodes, Empty}
use Rattle.md_lines.specs.Lines.{LineText, is_empty}
use Rattle.md_events.specs.Node.{node_then}
use Rattle.md_events.specs.Blocks.{block}

-- These lines, in order and each once, are empty ones between blocks, and the lines that each block takes: its first and
-- as many more as it says. The nodes are those of the blocks.
pub data TakesAll (nests : Bool) (read : Bool → List LineText → Nodes) (tight : Bool) : List LineText → Nodes → Type 0 where
  Over : TakesAll nests read tight [] Empty
  Passed : (line : LineText) (later : List LineText) (nodes : Nodes) → is_empty line ≡ true → TakesAll nests read tight later nodes → TakesAll nests read tight (line ∷ later) nodes
  Taken : (line : LineText) (own later : List LineText) (nodes : Nodes) → is_empty line ≡ false → length own ≡ (block nests read line (own ++ later)).more → TakesAll nests read tight later nodes → TakesAll nests read tight (line ∷ (own ++ later)) (node_then tight (block nests read line (own ++ later)).node nodes)
