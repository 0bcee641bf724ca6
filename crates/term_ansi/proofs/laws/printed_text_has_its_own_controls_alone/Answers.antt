use Rattle.term_ansi.proofs.CleanLemmas.{own-controls}
use Rattle.term_ansi.proofs.laws.printed_text_has_its_own_controls_alone.Goals as goal

pub returns : goal.returns
returns c = own-controls
