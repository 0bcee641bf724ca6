use Rattle.std.proofs.Common.{◌≡◌, ◌==◌, ◌++◌, ◌∷◌, [], cond, length, map, ap, ap₂, sym, ◌∙◌, false}
use Rattle.std.proofs.lemmas.List.{map-append}
use Rattle.std.proofs.lemmas.Iterator.Consumers.{YieldsList-end, YieldsList-at}
use Rattle.std.proofs.lemmas.Iterator.Splits.{YieldsList-from_lines}
use Rattle.term_text.specs.Style.{no_style}
use Rattle.term_text.specs.Text.{SpanView, LineView, raw_spans}
use Rattle.term_text.proofs.TextLemmas.{raw_spans-push}
use Rattle.term_text.proofs.text.Line.from_text.Goals as goal

pub loop-piece-init : goal.loop-piece-init
unfolding raw_spans
loop-piece-init c = c.new-line.ensures

pub loop-piece-preserved : goal.loop-piece-preserved
loop-piece-preserved c =
    let span : c.raw.result ≡ record { text = c.in-Some.piece.now; style = no_style; is_glyph = false } =
    c.raw.ensures ∙ ap (λ t. record { text = t; style = no_style; is_glyph = false }) c.borrowed.ensures in
    c.in_ok-push_span.ensures.ok
    ∙ ap₂ (λ (l : LineView) (s : SpanView). record l { spans = cond (length s.text == 0) l.spans (l.spans ++ s ∷ []) }) c.loop-piece.invariant span
    ∙ sym (ap (λ ts. record { spans = raw_spans ts; style = no_style }) (map-append (λ x. x.now) c.loop-piece.yielded (c.in-Some.piece ∷ []))
    ∙ ap (λ ss. record { spans = ss; style = no_style }) (raw_spans-push (map (λ x. x.now) c.loop-piece.yielded) c.in-Some.piece.now))

pub returns : goal.returns
returns c =
    let all = YieldsList-at c.into_iter-piece-iterator.ensures.into_iter_gives (YieldsList-from_lines c.args.text.now c.lines-piece-items.ensures.rest) in
    c.loop-piece.invariant
    ∙ ap (λ ts. record { spans = raw_spans ts; style = no_style })
    (YieldsList-end all c.loop-piece.yielded c.loop-piece.piece-iterator c.loop-piece.yielded_by _ _ c.in-None.is c.next.ensures.steps).0
