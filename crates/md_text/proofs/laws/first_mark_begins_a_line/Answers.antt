use Rattle.md_text.proofs.Starts.{document-begins}
use Rattle.md_text.proofs.laws.first_mark_begins_a_line.Goals as goal

pub returns : goal.returns
returns c = document-begins
