use Rattle.md_text.proofs.Frames.{document-holds}
use Rattle.md_text.proofs.laws.lines_hold_the_pieces.Goals as goal

pub returns : goal.returns
returns c = document-holds
