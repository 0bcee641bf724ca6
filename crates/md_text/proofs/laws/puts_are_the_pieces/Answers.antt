use Rattle.md_text.specs.Environment.{first_environment, first_spacing}
use Rattle.md_text.proofs.Pieces.{puts-layout}
use Rattle.md_text.proofs.laws.puts_are_the_pieces.Goals as goal

pub returns : goal.returns
returns c look t = puts-layout look t first_environment first_spacing
