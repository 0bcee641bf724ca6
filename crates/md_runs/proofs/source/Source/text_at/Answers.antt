use Rattle.std.proofs.Common.{◌-◌, ◌≡◌, map, ap, sym, subst, ◌∙◌}
use Rattle.std.specs.List.{slice_range}
use Rattle.md_lines.specs.Lines.{LineText, body_of}
use Rattle.md_leaves.specs.Cuts.{IsPlace}
use Rattle.md_runs.specs.Source.{Lined, source_of}
use Rattle.md_runs.proofs.SourceLemmas.{body_at-map, text-at-cursor, no-text-at-cursor}
use Rattle.md_runs.proofs.source.Source.text_at.Goals as goal

pub part-requires : goal.part-requires
part-requires c =
    let text : c.args.self.now.text ≡ source_of (map body_of c.self.inside.lines.now) = sym (ap (λ (s : Lined). s.text) c.self.view_is) ∙ c.self.invariant.1 in
    let body = body_at-map c.line_at.result.line c.self.inside.lines.now _ _ c.if-cursor-lines.true c.index-lines-cursor.is (sym (ap (λ (l : LineText). l.body) c.line.view_is)) in
    let there = text-at-cursor c.args.self.now.text c.self.inside.lines.now _ c.line_at.result c.args.from c.args.to text body c.line_at.ensures.cursor c.if-cursor-lines.true c.line_at.ensures.start c.line_at.ensures.end c.requires.place in
    subst (λ a. IsPlace c.line.inside.body.now a c.saturating_sub-then-cursor-lines.result) (sym c.saturating_sub.ensures)
    (subst (λ b. IsPlace c.line.inside.body.now (c.args.from - c.line_at.result.start) b) (sym c.saturating_sub-then-cursor-lines.ensures) there.place)

pub returns-then-cursor-lines-clause-value : goal.returns-then-cursor-lines-clause-value
returns-then-cursor-lines-clause-value c =
    let text : c.args.self.now.text ≡ source_of (map body_of c.self.inside.lines.now) = sym (ap (λ (s : Lined). s.text) c.self.view_is) ∙ c.self.invariant.1 in
    let body = body_at-map c.line_at.result.line c.self.inside.lines.now _ _ c.if-cursor-lines.true c.index-lines-cursor.is (sym (ap (λ (l : LineText). l.body) c.line.view_is)) in
    let there = text-at-cursor c.args.self.now.text c.self.inside.lines.now _ c.line_at.result c.args.from c.args.to text body c.line_at.ensures.cursor c.if-cursor-lines.true c.line_at.ensures.start c.line_at.ensures.end c.requires.place in
    c.part.ensures
    ∙ (ap (λ a. slice_range c.line.inside.body.now a c.saturating_sub-then-cursor-lines.result) c.saturating_sub.ensures
    ∙ (ap (λ b. slice_range c.line.inside.body.now (c.args.from - c.line_at.result.start) b) c.saturating_sub-then-cursor-lines.ensures ∙ there.value))

pub returns-else-cursor-lines-clause-value : goal.returns-else-cursor-lines-clause-value
returns-else-cursor-lines-clause-value c =
    let text : c.args.self.now.text ≡ source_of (map body_of c.self.inside.lines.now) = sym (ap (λ (s : Lined). s.text) c.self.view_is) ∙ c.self.invariant.1 in
    no-text-at-cursor c.args.self.now.text c.self.inside.lines.now c.line_at.result c.args.from c.args.to text c.line_at.ensures.cursor c.if-cursor-lines.false
