use Rattle.std.proofs.Common.{ap, cond, ◌∙◌, true, [], ◌∷◌}
use Rattle.unicode_segmentation.specs.Grapheme.{graphemes}
use Rattle.term_text.specs.Graph.{visible}
use Rattle.term_text.proofs.graphs.Graphemes.new.Goals as goal

pub returns-then-is_glyph : goal.returns-then-is_glyph
returns-then-is_glyph c =
    let s = c.args.span.now in
    c.of_glyph.ensures ∙ ap (λ text. visible c.args.style (text ∷ [])) c.text-text.ensures
    ∙ ap (λ b. visible c.args.style (cond b (s.text ∷ []) (graphemes true s.text))) c.if-is_glyph.ensures

pub returns-then-is_printable : goal.returns-then-is_printable
returns-then-is_printable c =
    let s = c.args.span.now in
    c.of_stretch.ensures ∙ ap (λ text. visible c.args.style (graphemes true text)) c.text-text.ensures
    ∙ ap (λ b. visible c.args.style (cond b (s.text ∷ []) (graphemes true s.text))) c.if-is_glyph.ensures

pub returns-then-is_plain : goal.returns-then-is_plain
returns-then-is_plain c =
    let s = c.args.span.now in
    c.of_plain.ensures ∙ ap (λ text. visible c.args.style (graphemes true text)) c.text-text.ensures
    ∙ ap (λ b. visible c.args.style (cond b (s.text ∷ []) (graphemes true s.text))) c.if-is_glyph.ensures

pub returns : goal.returns
returns c =
    let s = c.args.span.now in
    c.of_text.ensures ∙ ap (λ text. visible c.args.style (graphemes true text)) c.text-text.ensures
    ∙ ap (λ b. visible c.args.style (cond b (s.text ∷ []) (graphemes true s.text))) c.if-is_glyph.ensures
