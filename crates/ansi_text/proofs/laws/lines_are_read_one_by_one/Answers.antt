use Rattle.ansi_text.proofs.LawLemmas.{one_line-raw_lines, cut-line, cut-last}
use Rattle.ansi_text.proofs.laws.lines_are_read_one_by_one.Goals as goal

pub returns-clause-without_ends : goal.returns-clause-without_ends
returns-clause-without_ends c = one_line-raw_lines

pub returns-clause-first : goal.returns-clause-first
returns-clause-first c = cut-line

pub returns-clause-last : goal.returns-clause-last
returns-clause-last c = cut-last
