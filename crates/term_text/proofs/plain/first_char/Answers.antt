use Rattle.std.proofs.Common.{◌≡◌, ◌++◌, ap, sym, ◌∙◌}
use Rattle.std.specs.Prelude.{encode_utf8}
use Rattle.std.proofs.lemmas.Str.{chars_past_char}
use Rattle.term_text.proofs.FirstChar.{first-boundary, first-symbol}
use Rattle.term_text.proofs.plain.first_char.Goals as goal

pub range-requires-clause-end_boundary : goal.range-requires-clause-end_boundary
range-requires-clause-end_boundary c =
    let is : c.args.text.now ≡ encode_utf8 c.in_ok-c.c ++ c.as_str-rest.result.now =
    sym c.chars-chars.ensures.rest ∙ c.in_ok-c.ensures.steps.0 ∙ ap (λ rest. encode_utf8 c.in_ok-c.c ++ rest) (sym c.as_str-rest.ensures) in
    first-boundary c.args.text.now c.as_str-rest.result.now c.in_ok-c.c is c.as_str-rest.utf8

pub returns : goal.returns
returns c =
    let is : c.args.text.now ≡ encode_utf8 c.in_ok-c.c ++ c.as_str-rest.result.now =
    sym c.chars-chars.ensures.rest ∙ c.in_ok-c.ensures.steps.0 ∙ ap (λ rest. encode_utf8 c.in_ok-c.c ++ rest) (sym c.as_str-rest.ensures) in (
      chars_past_char c.args.text.now c.as_str-rest.result.now c.in_ok-c.c c.utf8.text is,
      c.range.ensures.value ∙ first-symbol c.args.text.now c.as_str-rest.result.now c.in_ok-c.c is,
    )
