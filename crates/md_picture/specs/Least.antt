-- The least width that a table can be drawn in.
use Rattle.std.specs.Prelude.{ℕ, ◌≤◌, ◌+◌, ◌*◌, List, ◌∷◌, length}
use Rattle.std.specs.List.{All}
use Rattle.term_text.specs.Text.{LineView}
use Rattle.md_columns.specs.declared.bounds.Choice.TheVariants.{Least}
use Rattle.md_columns.specs.Fair.{total}
use Rattle.md_picture.specs.Cells.{bounds_of, cell_width}
use Rattle.md_picture.specs.Picture.{TableView}

-- the least widths of all columns, a blank at either side of each and a border, and one border more
abbrev pub least_width : TableView → ℕ
least_width table =
    let bounds = bounds_of (length table.alignments) (table.header ∷ table.rows) in total Least bounds + 3 * length bounds + 1

-- no line takes more than so many columns
abbrev pub NoLineWider : ℕ → List LineView → Type 0
NoLineWider width lines = All (λ line. cell_width line ≤ width) lines
