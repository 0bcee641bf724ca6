use Rattle.md_picture.specs.Picture.{table_columns}
use Rattle.md_picture.proofs.Places.{row-place}
use Rattle.md_picture.proofs.laws.rows_stand_at_their_places.Goals as goal

pub returns : goal.returns
returns c styles width dividers table at le some = row-place styles dividers table (table_columns width table) at le some
