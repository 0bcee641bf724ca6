use Rattle.std.proofs.Common.{◌≡◌, ◌+◌, ◌-◌, sym, ap, ◌∙◌, false, length, arith}
use Rattle.term_text.specs.Cut.{cut_from, len_of}
use Rattle.term_text.specs.Iter.{grapheme}
use Rattle.term_text.specs.LineIter.{line_left}
use Rattle.term_text.specs.Walk.{cut_left}
use Rattle.term_text.proofs.CutLemmas.{cut_from-go, cut_from-stop}
use Rattle.term_text.proofs.SolidLemmas.{AreSolid-length, cut_from-solid}
use Rattle.term_text.proofs.walk.Walk.step.Goals as goal

pub returns-then-solid-gt0 : goal.returns-then-solid-gt0
unfolding cut_left
returns-then-solid-gt0 c =
    let s = c.args.self.now in
    let solid = c.pass_solid-solid.ensures.solid in (
      sym (cut_from-solid c.pass_solid-solid.result (line_left s.ahead) (line_left c.pass_solid-solid.new.self) s.room s.count s.mark c.pass_solid-solid.ensures.within solid),
      omega (arith, AreSolid-length _ _ _ solid, c.if-solid-gt0.true),
    )

pub returns-in_default : goal.returns-in_default
unfolding cut_left cut_from
returns-in_default c =
    let s = c.args.self.now in
    let same : line_left c.pass_solid-solid.new.self ≡ line_left s.ahead = c.pass_solid-solid.ensures.none (omega (arith, c.if-solid-gt0.false)) in
    sym (ap (cut_from s.room s.count s.mark) (sym same ∙ c.in_default.ensures.steps.0))

pub returns-then-graph-self : goal.returns-then-graph-self
unfolding cut_left
returns-then-graph-self c =
    let s = c.args.self.now in
    let same : line_left c.pass_solid-solid.new.self ≡ line_left s.ahead = c.pass_solid-solid.ensures.none (omega (arith, c.if-solid-gt0.false)) in
    let g = grapheme c.in-Some.graph in
    ap (λ m. (m, false)) (c.len_of.ensures ∙ ap (λ m. len_of m s.count) c.mark_of-mark.ensures)
    ∙ sym (cut_from-stop s.room s.count s.mark g (line_left c.next.new.self) c.if-graph-self.true)
    ∙ sym (ap (cut_from s.room s.count s.mark) (sym same ∙ c.in-Some.ensures.steps))

pub returns : goal.returns
unfolding cut_left
returns c =
    let s = c.args.self.now in
    let same : line_left c.pass_solid-solid.new.self ≡ line_left s.ahead = c.pass_solid-solid.ensures.none (omega (arith, c.if-solid-gt0.false)) in
    let g = grapheme c.in-Some.graph in
    let steps = sym same ∙ c.in-Some.ensures.steps in (
      ap (λ m. cut_from (s.room - c.in-Some.graph.width) (s.count + 1) m (line_left c.next.new.self)) c.mark_of-mark.ensures
          ∙ sym (cut_from-go s.room s.count s.mark g (line_left c.next.new.self) c.if-graph-self.false)
          ∙ sym (ap (cut_from s.room s.count s.mark) steps),
      omega (arith, ap length steps),
    )
