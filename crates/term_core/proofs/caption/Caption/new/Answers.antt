use Rattle.std.proofs.Common.{◌≡◌, ◌-◌, ◌++◌, ◌∷◌, [], replicate, ap, sym, ◌∙◌, arith, append-nil}
use Rattle.term_text.specs.Graph.{Grapheme}
use Rattle.term_text.specs.Iter.{grapheme}
use Rattle.term_text.specs.LineIter.{line_left}
use Rattle.term_core.specs.declared.caption.Stroke.{Stroke}
use Rattle.term_core.specs.declared.caption.Stroke.TheVariants.{Symbol, Blank}
use Rattle.term_core.specs.Caption.{fitted, strokes}
use Rattle.term_core.specs.Cells.{CellView, blank_cell}
use Rattle.term_core.proofs.CaptionLemmas.{strokes-none, strokes-over, strokes-more, length-more}
use Rattle.term_core.proofs.caption.Caption.new.Goals as goal

pub returns-then-graph-room-clause-ok : goal.returns-then-graph-room-clause-ok
returns-then-graph-room-clause-ok c =
    let g = grapheme c.in-Some.graph in
    let over : strokes (fitted c.graphs.room (line_left c.graphs.rest)) ≡ [] =
    ap (λ gs. strokes (fitted c.graphs.room gs)) c.in-Some.ensures.steps
    ∙ strokes-over c.graphs.room g (line_left c.next.new.self) (omega arith) in
    sym (append-nil c.graphs.strokes.items) ∙ sym (ap (λ t. c.graphs.strokes.items ++ t) over) ∙ c.graphs.invariant.items

pub graphs-preserved : goal.graphs-preserved
graphs-preserved c =
    let g = grapheme c.in-Some.graph in
    let pushed : c.push.new.self.items ≡ c.graphs.strokes.items ++ Symbol (record blank_cell { symbol = g.symbol }) g.style ∷ [] =
    c.in_ok-push.ensures.items ∙ ap (λ (cell : CellView). c.graphs.strokes.items ++ Symbol cell g.style ∷ []) c.in_ok-new.ensures.ok in
    let more : c.push_blanks.new.out.items
    ≡ (c.graphs.strokes.items ++ Symbol (record blank_cell { symbol = g.symbol }) g.style ∷ []) ++ replicate (g.width - 1) Blank =
    c.in_ok-push_blanks.ensures ∙ ap (λ t. t ++ replicate (g.width - 1) Blank) pushed in
    record {
      items =
          strokes-more c.graphs.room g (line_left c.next.new.self) c.graphs.strokes.items _ (omega arith) more
          ∙ sym (ap (λ gs. c.graphs.strokes.items ++ strokes (fitted c.graphs.room gs)) c.in-Some.ensures.steps) ∙ c.graphs.invariant.items;
      len = omega (arith, length-more g.width _ c.graphs.strokes.items _ c.in-Some.graph.shown more, c.graphs.invariant.len);
    }

pub returns-clause-ok : goal.returns-clause-ok
returns-clause-ok c =
    let none : strokes (fitted c.graphs.room (line_left c.graphs.rest)) ≡ [] =
    ap (λ gs. strokes (fitted c.graphs.room gs)) c.in_default.ensures.steps.0 ∙ strokes-none c.graphs.room in
    sym (append-nil c.graphs.strokes.items) ∙ sym (ap (λ t. c.graphs.strokes.items ++ t) none) ∙ c.graphs.invariant.items
