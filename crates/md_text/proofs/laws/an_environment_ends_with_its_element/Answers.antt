use Rattle.md_text.proofs.Follows.{layout-follows, environment_after-kept}
use Rattle.md_text.proofs.laws.an_environment_ends_with_its_element.Goals as goal

pub returns-clause-follows : goal.returns-clause-follows
returns-clause-follows c = layout-follows

pub returns-clause-kept : goal.returns-clause-kept
returns-clause-kept c = environment_after-kept
