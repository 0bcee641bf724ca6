use Rattle.std.proofs.Common.{ℕ, List, Bor, chars, ap, ◌∙◌}
use Rattle.std.proofs.lemmas.Str.{chars-nil}
use Rattle.term_widgets.proofs.MascotLemmas.{dots_in-line, dots_in-past}
use Rattle.term_widgets.proofs.mascot.dots_in.Goals as goal

pub returns-in-Some : goal.returns-in-Some
returns-in-Some c =
    ap chars c.chars.ensures.rest
    ∙ dots_in-line (λ (text : Bor (List ℕ)). text.now) c.args.picture.now c.args.line c.in-Some.text.now c.in-Some.ensures.lookup.3.0 c.in-Some.ensures.lookup.1

pub returns-in-None : goal.returns-in-None
returns-in-None c =
    ap chars c.chars-in-None.ensures.rest ∙ chars-nil
    ∙ dots_in-past (λ (text : Bor (List ℕ)). text.now) c.args.picture.now c.args.line c.in-None.ensures.lookup.3
