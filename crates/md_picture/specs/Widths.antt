-- How wide the lines of a picture are.
use Rattle.std.specs.Prelude.{◌≡◌, ℕ, ◌+◌, ◌*◌, List, length, sum_by}
use Rattle.std.specs.List.{All}
use Rattle.term_text.specs.Text.{LineView}
use Rattle.md_picture.specs.declared.columns.Column.{Column}
use Rattle.md_picture.specs.Cells.{cell_width}

-- all the columns, a blank at either side of each and a border, and one border more
abbrev pub picture_width : List Column → ℕ
picture_width columns = sum_by (λ column. column.width) columns + 3 * length columns + 1

-- each line takes so many columns
abbrev pub AllAsWide : ℕ → List LineView → Type 0
AllAsWide width lines = All (λ line. cell_width line ≡ width) lines
