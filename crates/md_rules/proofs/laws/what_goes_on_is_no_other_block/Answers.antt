use Rattle.md_rules.proofs.RuleLaws.{goes-on}
use Rattle.md_rules.proofs.laws.what_goes_on_is_no_other_block.Goals as goal

pub returns : goal.returns
returns c = goes-on
