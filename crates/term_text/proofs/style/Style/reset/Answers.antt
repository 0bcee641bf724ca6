use Rattle.std.proofs.Common.{rules}
use Rattle.bitflags.specs.Sets.{known_from}
use Rattle.term_text.proofs.style.Style.reset.Goals as goal

pub returns : goal.returns
unfolding known_from
returns c = search rules
