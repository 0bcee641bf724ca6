use Rattle.std.proofs.Common.{◌∙◌, ap, drop}
use Rattle.ansi_text.proofs.LineLemmas.{take-rest}
use Rattle.ansi_text.proofs.line.first_stretch.Goals as goal

pub returns-clause-rest : goal.returns-clause-rest
returns-clause-rest c = take-rest c.first_escape-end.result c.args.bytes.now ∙ ap (λ n. drop n c.args.bytes.now) c.first_escape-end.ensures.value
