use Rattle.std.proofs.Common.{◌∙◌, ap, cond, ◌==◌, length, [], ◌∷◌, ◌++◌}
use Rattle.std.proofs.lemmas.Str.{is_utf8-from_IsUtf8}
use Rattle.term_text.specs.Text.{SpanView}
use Rattle.ansi_text.specs.Lines.{plain_span}
use Rattle.ansi_text.proofs.LineLemmas.{is_utf8-not}
use Rattle.ansi_text.proofs.line.push_stretch.Goals as goal

pub returns-in_ok-push_span-in-Ok-clause-ok : goal.returns-in_ok-push_span-in-Ok-clause-ok
returns-in_ok-push_span-in-Ok-clause-ok c =
    let before = c.args.line.now in (
      c.in_ok-push_span-in-Ok.ensures.ok
          ∙ ap (λ (s : SpanView). record before { spans = cond (length s.text == 0) before.spans (before.spans ++ s ∷ []) })
          (c.styled.ensures ∙ ap (λ t. plain_span t c.args.style) (c.borrowed.ensures ∙ c.in-Ok.ensures.cases.0)),
      is_utf8-from_IsUtf8 _ c.in-Ok.ensures.cases.1,
    )

pub returns-in-Err-clause-not_utf8 : goal.returns-in-Err-clause-not_utf8
returns-in-Err-clause-not_utf8 c = λ _. is_utf8-not _ c.in-Err.ensures.cases.0
