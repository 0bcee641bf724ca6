use Rattle.std.proofs.Common.{sym, subst, ap, drop, ◌∙◌}
use Rattle.std.specs.Str.{IsCharBoundary}
use Rattle.term_text.specs.LineEnds.{end_length}
use Rattle.term_text.proofs.EndLemmas.{after_end-drop, boundary_end}
use Rattle.term_text.proofs.line_ends.after_end.Goals as goal

pub range_from-requires : goal.range_from-requires
range_from-requires c =
    λ _. subst (IsCharBoundary c.args.rest.now) (sym (c.end_length.ensures.value ∙ ap end_length c.as_bytes.ensures.value))
    (boundary_end c.args.rest.now c.utf8.rest c.requires)

pub returns : goal.returns
returns c =
    c.range_from.ensures.value
    ∙ ap (λ n. drop n c.args.rest.now) (c.end_length.ensures.value ∙ ap end_length c.as_bytes.ensures.value)
    ∙ sym (after_end-drop c.args.rest.now)
