-- The rows of a table.
use Rattle.std.proofs.Common.{List, [], ◌∷◌, ◌≡◌, ◌+◌, suc, refl, arith, true, false, Bool, cond}
use Rattle.std.specs.List.{prefix_len}
use Rattle.md_lines.specs.Lines.{LineText}
use Rattle.md_rules.specs.Rows.{is_row, row_count}

pub row_count-prefix : (nests : Bool) (lines : List LineText) → row_count nests lines ≡ prefix_len (λ line. is_row nests line) lines
unfolding row_count
row_count-prefix nests [] = refl
row_count-prefix nests (line ∷ lines) = go (is_row nests line) (row_count-prefix nests lines)
  where
    go : (v : Bool) → row_count nests lines ≡ prefix_len (λ line. is_row nests line) lines → cond v (suc (row_count nests lines)) 0 ≡ cond v (1 + prefix_len (λ line. is_row nests line) lines) 0
    go true h = omega arith
    go false h = refl
