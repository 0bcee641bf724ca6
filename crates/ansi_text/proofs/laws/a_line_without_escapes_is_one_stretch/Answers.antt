use Rattle.ansi_text.proofs.LawLemmas.{pieces-plain}
use Rattle.ansi_text.proofs.laws.a_line_without_escapes_is_one_stretch.Goals as goal

pub returns : goal.returns
returns c = pieces-plain
