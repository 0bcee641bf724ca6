use Rattle.std.proofs.Common.{ap, arith, sym, ◌∙◌, false, length, nat_lt}
use Rattle.md_rules.proofs.CellLemmas.{has_bar-before, has_bar-none}
use Rattle.md_rules.proofs.cell.has_bar.Goals as goal

pub returns-in-Some : goal.returns-in-Some
returns-in-Some c = ap (λ n. nat_lt n (length c.args.bytes.now)) c.before_bar.ensures.value ∙ sym (has_bar-before false c.args.bytes.now)

pub returns-in-None : goal.returns-in-None
returns-in-None c = sym (has_bar-none false c.args.bytes.now (λ j below is. c.in-None.ensures j (omega arith) below is))
