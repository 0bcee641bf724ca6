use Rattle.std.proofs.Common.{sym, subst, ap, ◌∙◌}
use Rattle.std.specs.Str.{IsCharBoundary}
use Rattle.term_text.specs.LineEnds.{first_end}
use Rattle.term_text.proofs.EndLemmas.{boundary_first_end}
use Rattle.term_text.proofs.line_ends.text_end.Goals as goal

pub returns-clause-boundary : goal.returns-clause-boundary
returns-clause-boundary c =
    subst (IsCharBoundary c.args.text.now) (sym (c.first_end.ensures.value ∙ ap first_end c.as_bytes.ensures.value)) (boundary_first_end c.args.text.now)
