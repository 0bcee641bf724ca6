use Rattle.ansi_text.proofs.LawLemmas.{only-line, closing_lf, closing_crlf, closing_cr}
use Rattle.ansi_text.proofs.laws.one_line_is_the_line_of_its_bytes.Goals as goal

pub returns-clause-alone : goal.returns-clause-alone
returns-clause-alone c = only-line

pub returns-clause-lf : goal.returns-clause-lf
returns-clause-lf c = closing_lf

pub returns-clause-crlf : goal.returns-clause-crlf
returns-clause-crlf c = closing_crlf

pub returns-clause-cr : goal.returns-clause-cr
returns-clause-cr c = closing_cr
