use Rattle.ansi_text.proofs.Utf8Lemmas.{utf8-ansi}
use Rattle.ansi_text.proofs.laws.stretches_of_text_are_text.Goals as goal

pub returns : goal.returns
returns c = utf8-ansi
