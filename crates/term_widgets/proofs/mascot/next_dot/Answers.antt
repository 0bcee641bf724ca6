use Rattle.std.proofs.Common.{ℕ, List, subst}
use Rattle.std.specs.Str.{IsUtf8}
use Rattle.std.specs.Str.Iter.{chars_rest}
use Rattle.term_widgets.proofs.MascotLemmas.{next_dot}
use Rattle.term_widgets.proofs.mascot.next_dot.Goals as goal

pub returns : goal.returns
returns c =
    next_dot _ (chars_rest c.args.dots.now) c.next.result (chars_rest c.next.new.self)
    (subst (λ (bs : List ℕ). IsUtf8 bs) c.as_str-left.ensures c.as_str-left.utf8) c.next.ensures.steps.0
