use Rattle.ansi_text.proofs.LawLemmas.{pieces-sequence, pieces-written}
use Rattle.ansi_text.proofs.laws.a_sequence_stands_before_the_rest.Goals as goal

pub returns-clause-read : goal.returns-clause-read
returns-clause-read c = pieces-sequence

pub returns-clause-written : goal.returns-clause-written
returns-clause-written c = pieces-written
