use Rattle.std.proofs.Common.{arith, length-drop, ap, ◌∙◌}
use Rattle.std.proofs.lemmas.List.{drop_all}
use Rattle.term_text.specs.Iter.{plain_left, stretch_left}
use Rattle.term_text.proofs.graphs.GraphemesIterator.next.Goals as goal

pub next_byte-requires : goal.next_byte-requires
unfolding stretch_left
next_byte-requires c = omega (arith, length-drop c.args.self.now.passed c.args.self.now.stretch.now)

pub next_plain-requires : goal.next_plain-requires
unfolding stretch_left
next_plain-requires c = drop_all c.args.self.now.passed c.args.self.now.stretch.now (omega arith)

pub next_shown-requires : goal.next_shown-requires
unfolding stretch_left
next_shown-requires c =
    let same = c.in_default.ensures.1 in
    record {
      stretch = ap stretch_left same ∙ drop_all c.args.self.now.passed c.args.self.now.stretch.now (omega arith);
      plain = ap plain_left same ∙ c.in_default.ensures.0;
    }
