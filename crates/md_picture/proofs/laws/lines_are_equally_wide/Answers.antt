use Rattle.md_picture.proofs.Lines.{lines-equally-wide}
use Rattle.md_picture.proofs.laws.lines_are_equally_wide.Goals as goal

pub returns : goal.returns
returns c = lines-equally-wide
