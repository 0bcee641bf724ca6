use Rattle.std.proofs.Common.{◌+◌, ◌-◌, ◌<◌, ◌≤◌, List, ℕ, sym, ap, subst, ◌∙◌, false, length, take, drop, arith, length-drop}
use Rattle.term_text.specs.Cut.{cut_from, len_of, mark_after}
use Rattle.term_text.specs.Iter.{stretch_left}
use Rattle.term_text.specs.LineIter.{line_left}
use Rattle.term_text.specs.Walk.{cut_left}
use Rattle.term_text.proofs.LineLemmas.{line_left-some}
use Rattle.term_text.proofs.StretchLemmas.{line-stretch_fits, line-stretch_over}
use Rattle.term_text.proofs.walk.Walk.pass_stretch.Goals as goal

pub returns-then-stretch-self : goal.returns-then-stretch-self
unfolding cut_left
returns-then-stretch-self c =
    let s = c.args.self.now in
    let same = c.stretch-stretch.ensures in
    ap (λ m. (m, false)) (c.len_of.ensures ∙ ap (λ m. len_of m (s.count + s.room)) (c.mark_after-mark.ensures ∙ ap (λ (bs : List ℕ). mark_after (take (s.room + 1) bs) s.count s.mark) same))
    ∙ sym (line-stretch_over s.ahead s.room s.count s.mark (subst (λ (bs : List ℕ). s.room < length bs) same c.if-stretch-self.true))

pub returns : goal.returns
unfolding cut_left
returns c =
    let s = c.args.self.now in
    let same = c.stretch-stretch.ensures in
    let fits : length (stretch_left s.ahead.current) ≤ s.room = subst (λ (bs : List ℕ). length bs ≤ s.room) same c.if-stretch-self.false in
    let rest = c.pass_stretch.ensures ∙ ap (λ (bs : List ℕ). drop (length bs) (line_left s.ahead)) same in
    let some = line_left-some s.ahead c.requires in (
      ap (λ m. cut_from (s.room - length c.stretch-stretch.result.now) (s.count + length c.stretch-stretch.result.now) m (line_left c.pass_stretch.new.self)) c.mark_after-self.ensures
          ∙ ap (cut_from (s.room - length c.stretch-stretch.result.now) (s.count + length c.stretch-stretch.result.now) (mark_after c.stretch-stretch.result.now s.count s.mark)) rest
          ∙ ap (λ (bs : List ℕ). cut_from (s.room - length bs) (s.count + length bs) (mark_after bs s.count s.mark) (drop (length (stretch_left s.ahead.current)) (line_left s.ahead))) same
          ∙ sym (line-stretch_fits s.ahead s.room s.count s.mark fits),
      omega (arith, ap length rest, length-drop (length (stretch_left s.ahead.current)) (line_left s.ahead), some, c.requires),
    )
