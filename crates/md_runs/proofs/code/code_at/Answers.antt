use Rattle.std.proofs.Common.{◌≡◌, ◌+◌, ◌-◌, length, map, true, ap, sym, subst, ◌∙◌}
use Rattle.std.specs.Str.{IsUtf8}
use Rattle.std.specs.List.{slice_range}
use Rattle.md_leaves.specs.Cuts.{IsPlace, IsText}
use Rattle.term_text.specs.LineEnds.{is_one_line}
use Rattle.md_runs.specs.Code.{padding, spaced, code_text}
use Rattle.md_runs.proofs.CodeLemmas.{pads, code-line}
use Rattle.md_runs.proofs.code.code_at.Goals as goal

pub text_at-requires-clause-place : goal.text_at-requires-clause-place
text_at-requires-clause-place c =
    let text : c.slice-text.result.now ≡ slice_range c.args.source.now.text c.args.from c.args.to = c.slice-text.ensures in
    let pad : c.padding-pad.result ≡ padding (slice_range c.args.source.now.text c.args.from c.args.to) = c.padding-pad.ensures ∙ ap padding (c.as_bytes.ensures.value ∙ text) in
    let one : is_one_line (slice_range c.args.source.now.text c.args.from c.args.to) ≡ true = ap is_one_line (sym (c.as_bytes-2.ensures.value ∙ text)) ∙ sym c.if-is_one_line.ensures in
    let h = code-line c.args.source.now.text c.args.from c.args.to c.requires.place (subst IsUtf8 text c.slice-text.utf8) one in
    subst (λ p. IsText c.args.source.now.text (c.args.from + p) (c.args.to - p)) (sym pad) h.0

pub spaced-requires : goal.spaced-requires
spaced-requires c =
    let pad : c.padding-pad.result ≡ padding c.slice-text.result.now = c.padding-pad.ensures ∙ ap padding c.as_bytes.ensures.value in
    subst (λ p. IsPlace c.slice-text.result.now p (length c.slice-text.result.now - p)) (sym pad) (pads c.slice-text.result.now c.slice-text.utf8).place

pub returns-then-is_one_line-clause-text : goal.returns-then-is_one_line-clause-text
returns-then-is_one_line-clause-text c =
    let text : c.slice-text.result.now ≡ slice_range c.args.source.now.text c.args.from c.args.to = c.slice-text.ensures in
    let pad : c.padding-pad.result ≡ padding (slice_range c.args.source.now.text c.args.from c.args.to) = c.padding-pad.ensures ∙ ap padding (c.as_bytes.ensures.value ∙ text) in
    let one : is_one_line (slice_range c.args.source.now.text c.args.from c.args.to) ≡ true = ap is_one_line (sym (c.as_bytes-2.ensures.value ∙ text)) ∙ sym c.if-is_one_line.ensures in
    let h = code-line c.args.source.now.text c.args.from c.args.to c.requires.place (subst IsUtf8 text c.slice-text.utf8) one in
    c.borrowed.ensures ∙ (c.text_at.ensures.value ∙ (ap (λ p. slice_range c.args.source.now.text (c.args.from + p) (c.args.to - p)) pad ∙ h.1))

pub returns-in_ok-spaced-clause-text : goal.returns-in_ok-spaced-clause-text
returns-in_ok-spaced-clause-text c =
    let pad : c.padding-pad.result ≡ padding c.slice-text.result.now = c.padding-pad.ensures ∙ ap padding c.as_bytes.ensures.value in
    c.owned.ensures ∙ (c.in_ok-spaced.ensures ∙ (ap (λ p. map spaced (slice_range c.slice-text.result.now p (length c.slice-text.result.now - p))) pad
    ∙ (sym (pads c.slice-text.result.now c.slice-text.utf8).value ∙ ap code_text c.slice-text.ensures)))
