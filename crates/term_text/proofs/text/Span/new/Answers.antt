use Rattle.std.proofs.Common.{ap, sym, ◌∙◌}
use Rattle.std.specs.List.{list_all}
use Rattle.std.specs.Str.{chars}
use Rattle.term_text.specs.Plain.{is_plain, is_printable}
use Rattle.term_text.proofs.PlainLemmas.{IsPlain-printable}
use Rattle.term_text.proofs.text.Span.new.Goals as goal
use Rattle.term_text.proofs.text.Span.new.Goals.{then-printable, else-printable}

pub invariant_of-result : goal.invariant_of-result
invariant_of-result c =
    let printable = c.all_printable-printable.ensures ∙ ap (list_all is_printable) (c.as_bytes.ensures.value ∙ c.as_str.ensures) in (
      printable,
      elim c.if-printable.branch [
        | then-printable w ↦ w.plain-is ∙ w.if-printable.true ∙ sym (IsPlain-printable c.args.text (sym printable ∙ w.if-printable.true))
        | else-printable w ↦ w.plain-is ∙ w.all_plain-plain.ensures ∙ ap (λ text. list_all is_plain (chars text)) w.as_str-else-printable.ensures
      ],
    )
