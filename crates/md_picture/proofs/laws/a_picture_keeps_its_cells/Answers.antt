use Rattle.std.proofs.Common.{◌∷◌, length}
use Rattle.md_picture.specs.Picture.{table_columns}
use Rattle.md_picture.proofs.Fitting.{table-fits}
use Rattle.md_picture.proofs.Showing.{picture-shown}
use Rattle.md_picture.proofs.laws.a_picture_keeps_its_cells.Goals as goal

pub returns : goal.returns
returns c styles width dividers table at le =
    picture-shown styles dividers table (table_columns width table) at (table-fits width (length table.alignments) table.alignments (table.header ∷ table.rows)) le
