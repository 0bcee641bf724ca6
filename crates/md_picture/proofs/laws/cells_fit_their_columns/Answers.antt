use Rattle.std.proofs.Common.{◌∷◌, length}
use Rattle.md_picture.proofs.Fitting.{table-fits}
use Rattle.md_picture.proofs.laws.cells_fit_their_columns.Goals as goal

pub returns : goal.returns
returns c width table = table-fits width (length table.alignments) table.alignments (table.header ∷ table.rows)
