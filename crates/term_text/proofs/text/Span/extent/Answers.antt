use Rattle.std.proofs.Common.{length, ap, sym, ◌∙◌, arith}
use Rattle.term_text.specs.Graph.{columns}
use Rattle.term_text.specs.Iter.{grapheme, graphs_left}
use Rattle.term_text.proofs.CutLemmas.{columns-cons}
use Rattle.term_text.proofs.WidthLemmas.{columns-printable_span, widest-cons, widest-end, widest-printable_span}
use Rattle.term_text.proofs.text.Span.extent.Goals as goal

pub returns-then-not-is_glyph-clause-columns : goal.returns-then-not-is_glyph-clause-columns
returns-then-not-is_glyph-clause-columns c =
    let sum = columns-printable_span c.args.self.now (sym c.is_printable.ensures ∙ c.if-is_printable.true) (sym c.is_glyph.ensures ∙ c.if-not-is_glyph.true) in
    omega (arith, sum, ap length c.text-columns.ensures)

pub returns-then-not-is_glyph-clause-widest : goal.returns-then-not-is_glyph-clause-widest
returns-then-not-is_glyph-clause-widest c =
    let most = widest-printable_span c.args.self.now (sym c.is_printable.ensures ∙ c.if-is_printable.true) (sym c.is_glyph.ensures ∙ c.if-not-is_glyph.true) in
    omega (arith, most, ap length c.text-columns.ensures, c.min.ensures)

pub graphs-preserved : goal.graphs-preserved
graphs-preserved c =
    let sum = ap columns c.in-Some.ensures.steps ∙ columns-cons (grapheme c.in-Some.graph) (graphs_left c.next.new.self) in
    let most = widest-cons _ _ _ c.in-Some.ensures.steps in
    let before = c.graphs.invariant in (
      omega (arith, sum, before.0, before.1, c.saturating_add.ensures),
      omega (arith, c.saturating_add.ensures),
      omega (arith, most, before.2, c.max.ensures),
    )

pub returns-clause-widest : goal.returns-clause-widest
returns-clause-widest c = widest-end c.graphs.extent.widest _ _ c.graphs.invariant.2 c.in_default.ensures.steps.0
