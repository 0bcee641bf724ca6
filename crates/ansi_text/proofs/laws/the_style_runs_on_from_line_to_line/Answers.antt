use Rattle.ansi_text.proofs.LawLemmas.{after-only, after-first_lf, after-first_crlf, after-first_cr}
use Rattle.ansi_text.proofs.laws.the_style_runs_on_from_line_to_line.Goals as goal

pub returns-clause-alone : goal.returns-clause-alone
returns-clause-alone c = after-only

pub returns-clause-lf : goal.returns-clause-lf
returns-clause-lf c = after-first_lf

pub returns-clause-crlf : goal.returns-clause-crlf
returns-clause-crlf c = after-first_crlf

pub returns-clause-cr : goal.returns-clause-cr
returns-clause-cr c = after-first_cr
