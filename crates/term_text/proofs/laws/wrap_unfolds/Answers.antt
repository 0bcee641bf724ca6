use Rattle.term_text.proofs.WrapLemmas.{wrap-fits, wrap-cut, Narrow-from}
use Rattle.term_text.proofs.laws.wrap_unfolds.Goals as goal

pub returns-clause-fits : goal.returns-clause-fits
returns-clause-fits c = wrap-fits

pub returns-clause-cut : goal.returns-clause-cut
returns-clause-cut c w gs h ok = wrap-cut w gs h (Narrow-from w gs ok)
