use Rattle.std.proofs.Common.{◌≡◌, ◌+◌, ◌==◌, ◌&&◌, cond, Some, ap, ◌∙◌, arith, vec_len}
use Rattle.std.specs.Prelude.{option_map}
use Rattle.term_core.specs.Buffers.{cell_at}
use Rattle.term_core.specs.Caption.{struck}
use Rattle.term_core.proofs.CaptionLemmas.{StruckFrom-init, StruckFrom-step}
use Rattle.term_core.proofs.caption.Caption.write.Goals as goal

pub strokes-init : goal.strokes-init
strokes-init c = StruckFrom-init _ _ _ _ _ (omega arith)

pub strokes-preserved : goal.strokes-preserved
strokes-preserved c =
    let at : c.len.result ≡ vec_len c.pop.new.self = cc in
    StruckFrom-step c.args.x c.args.y _ c.strokes.rest.items c.pop.new.self.items (vec_len c.strokes.rest) (vec_len c.pop.new.self) c.in-Some.stroke
    c.args.buf.now c.strokes.buf c.strike.new.self
    c.strokes.invariant (omega (arith, c.in-Some.ensures.cases))
    (λ d h. c.in-Some.ensures.value d h) c.in-Some.ensures.rest
    c.strike.ensures.area
    (λ p q. c.strike.ensures.cells p q
    ∙ ap (λ k. cond ((p == c.args.x + k) && (q == c.args.y)) (option_map (struck (Some c.in-Some.stroke)) (cell_at c.strokes.buf p q)) (cell_at c.strokes.buf p q)) at)
