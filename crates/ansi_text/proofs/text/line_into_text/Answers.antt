use Rattle.std.proofs.Common.{◌∙◌, ap}
use Rattle.ansi_text.specs.Lines.{is_filled}
use Rattle.ansi_text.proofs.TextLemmas.{filled-line}
use Rattle.ansi_text.proofs.text.line_into_text.Goals as goal

pub owned_line-requires : goal.owned_line-requires
owned_line-requires c = ap is_filled c.in_ok-line.ensures.0 ∙ filled-line c.args.style c.args.line.now
