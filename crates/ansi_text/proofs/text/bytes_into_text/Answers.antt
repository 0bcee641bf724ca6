use Rattle.std.proofs.Common.{◌∙◌, ap}
use Rattle.ansi_text.specs.Lines.{all_filled}
use Rattle.ansi_text.proofs.TextLemmas.{filled-ansi}
use Rattle.ansi_text.proofs.text.bytes_into_text.Goals as goal

pub owned_text-requires : goal.owned_text-requires
owned_text-requires c = ap all_filled c.in_ok-text.ensures.0 ∙ filled-ansi c.args.bytes.now
