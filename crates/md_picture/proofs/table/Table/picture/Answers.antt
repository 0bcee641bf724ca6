use Rattle.std.proofs.Common.{◌∙◌, ◌∷◌, length, sym, subst}
use Rattle.md_picture.specs.Fits.{RowFits, RowsFit}
use Rattle.md_picture.specs.Picture.{TableView, table_columns}
use Rattle.md_picture.proofs.Fitting.{table-fits}
use Rattle.md_picture.proofs.table.Table.picture.Goals as goal

pub lines_of-requires-clause-header_fits : goal.lines_of-requires-clause-header_fits
lines_of-requires-clause-header_fits c =
    let table = c.args.self.now in
    subst (λ columns. RowFits columns c.self.inside.header) (sym (c.as_slice.ensures.value ∙ c.in_ok-columns.ensures))
    (subst (λ (t : TableView). RowFits (table_columns c.args.width table) t.header) (sym c.self.view_is)
    (table-fits c.args.width (length table.alignments) table.alignments (table.header ∷ table.rows)).0)

pub lines_of-requires-clause-rows_fit : goal.lines_of-requires-clause-rows_fit
lines_of-requires-clause-rows_fit c =
    let table = c.args.self.now in
    subst (λ rows. RowsFit c.as_slice.result.now rows) (sym c.as_slice-2.ensures.value)
    (subst (λ columns. RowsFit columns c.self.inside.rows.items) (sym (c.as_slice.ensures.value ∙ c.in_ok-columns.ensures))
    (subst (λ (t : TableView). RowsFit (table_columns c.args.width table) t.rows) (sym c.self.view_is)
    (table-fits c.args.width (length table.alignments) table.alignments (table.header ∷ table.rows)).1))
