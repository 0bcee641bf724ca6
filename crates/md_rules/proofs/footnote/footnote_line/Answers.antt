use Rattle.std.proofs.Common.{◌≡◌, ◌+◌, List, ℕ, ap, sym, ◌∙◌, subst, length}
use Rattle.std.specs.Str.{IsCharBoundary, IsUtf8}
use Rattle.term_text.specs.LineEnds.{is_one_line}
use Rattle.md_lines.proofs.LineLemmas.{is_one_line-drop}
use Rattle.md_lines.specs.Lines.{LineText}
use Rattle.md_rules.proofs.FootnoteLemmas.{label-boundary}
use Rattle.md_rules.proofs.footnote.footnote_line.Goals as goal

pub range_from-requires : goal.range_from-requires
range_from-requires c =
    let same : c.line.inside.body.now ≡ c.args.line.now.body = ap (λ (l : LineText). l.body) c.line.view_is in
    let utf8 : IsUtf8 c.args.line.now.body = subst (λ (t : List ℕ). IsUtf8 t) same c.line.invariant.0 in
    let label : c.args.label.now ≡ c.as_str.result.now = sym c.as_str.ensures in
    let place : IsCharBoundary c.args.line.now.body (length c.args.label.now + 4) = (label-boundary c.args.line.now c.args.label.now utf8 c.requires).1 in
    λ _. subst (λ (n : ℕ). IsCharBoundary c.line.inside.body.now n) (ap (λ (l : List ℕ). length l + 4) label) (subst (λ (t : List ℕ). IsCharBoundary t (length c.args.label.now + 4)) (sym same) place)

pub line_of-rest-requires : goal.line_of-rest-requires
line_of-rest-requires c = ap is_one_line c.range_from.ensures.value ∙ is_one_line-drop (length c.as_str.result.now + 4) c.line.inside.body.now c.line.invariant.1
