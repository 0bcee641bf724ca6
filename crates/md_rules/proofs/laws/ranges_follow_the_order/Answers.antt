use Rattle.md_rules.proofs.RuleLaws.{among-none}
use Rattle.md_rules.proofs.laws.ranges_follow_the_order.Goals as goal

pub returns : goal.returns
returns c = among-none
