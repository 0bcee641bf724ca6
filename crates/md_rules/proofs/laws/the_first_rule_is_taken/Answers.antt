use Rattle.md_rules.proofs.RuleLaws.{is-first}
use Rattle.md_rules.proofs.laws.the_first_rule_is_taken.Goals as goal

pub returns : goal.returns
returns c = is-first
