use Rattle.ansi_text.proofs.LawLemmas.{number-decimal}
use Rattle.ansi_text.proofs.laws.written_numbers_are_read_back.Goals as goal

pub returns : goal.returns
returns c = number-decimal
