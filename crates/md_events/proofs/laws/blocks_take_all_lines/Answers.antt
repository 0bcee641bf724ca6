use Rattle.md_events.proofs.TakenLaws.{all-taken}
use Rattle.md_events.proofs.laws.blocks_take_all_lines.Goals as goal

pub returns : goal.returns
returns c = all-taken
