-- A table as it is built.
use Rattle.std.specs.List.{All}
use Rattle.std.specs.Prelude.{◌≡◌, Bool, true, false, if◌then◌else◌, ◌==◌, List, [], ◌∷◌, ◌++◌, length}
use Rattle.term_text.specs.Style.{no_style}
use Rattle.term_text.specs.Text.{SpanView, LineView}
use Rattle.md_picture.specs.Picture.{TableView}
use Rattle.md_picture.specs.declared.styles.Styles.{Styles}
use Rattle.md_table.specs.Sheet.{Sheet}
use Rattle.md_table.specs.declared.builder.RowDividers.{RowDividers}
use Rattle.md_table.specs.declared.builder.RowDividers.TheVariants.{Hidden, Shown}

-- the cells that are finished, the row that is not, and the cell that is not
pub record BuilderView : Type 0 where
  pub table : TableView
  pub row : List LineView
  pub cell : LineView

-- no style lies under the spans of these cells
abbrev pub AllUnstyled : List LineView → Type 0
AllUnstyled cells = All (λ cell. cell.style ≡ no_style) cells

-- nor under those of any cell of a table that is built
pub record Unstyled (table : TableView) (row : List LineView) (cell : LineView) : Type 0 where
  pub in_header : AllUnstyled table.header
  pub in_rows : All (λ cells. AllUnstyled cells) table.rows
  pub in_row : AllUnstyled row
  pub in_cell : cell.style ≡ no_style

-- an empty span adds nothing
abbrev pub with_span : LineView → SpanView → LineView
with_span cell span = if length span.text == 0 then cell else record cell { spans = cell.spans ++ span ∷ [] }

abbrev pub are_shown : RowDividers → Bool
are_shown Hidden = false
are_shown Shown = true

abbrev pub dividers_of : Bool → RowDividers
dividers_of shown = if shown then Shown else Hidden

-- what a style sheet answers for tables
abbrev pub table_styles : Sheet → Styles
table_styles sheet = record { border = sheet.table_border; header = sheet.table_header; cell = sheet.table_cell }
