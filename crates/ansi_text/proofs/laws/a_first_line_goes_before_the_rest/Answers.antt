use Rattle.ansi_text.proofs.LawLemmas.{first-line_lf, first-line_crlf, first-line_cr}
use Rattle.ansi_text.proofs.laws.a_first_line_goes_before_the_rest.Goals as goal

pub returns-clause-lf : goal.returns-clause-lf
returns-clause-lf c = first-line_lf

pub returns-clause-crlf : goal.returns-clause-crlf
returns-clause-crlf c = first-line_crlf

pub returns-clause-cr : goal.returns-clause-cr
returns-clause-cr c = first-line_cr
