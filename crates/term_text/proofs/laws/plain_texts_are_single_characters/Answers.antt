use Rattle.term_text.proofs.PlainLemmas.{visible-plain, visible-printable}
use Rattle.term_text.proofs.laws.plain_texts_are_single_characters.Goals as goal

pub returns-clause-plain : goal.returns-clause-plain
returns-clause-plain c = visible-plain

pub returns-clause-printable : goal.returns-clause-printable
returns-clause-printable c = visible-printable
