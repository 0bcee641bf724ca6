-- Marks drawn one part after another.
use Rattle.std.proofs.Common.{◌≡◌, List, [], ◌∷◌, ◌++◌, refl, ap}
use Rattle.term_text.specs.Text.{LineView}
use Rattle.md_text.specs.declared.environment.Spacing.{Spacing}
use Rattle.md_text.specs.Marks.{Mark, draw, draws}
use Rattle.md_text.specs.Laid.{Laid, then_laid}
use Rattle.md_text.specs.State.{State, laid}

pub draws-append : (lines : List LineView) (a b : List Mark) → draws lines (a ++ b) ≡ draws (draws lines a) b
draws-append lines [] b = refl
draws-append lines (mark ∷ a) b = draws-append (draw lines mark) a b

-- two layouts, one after the other
pub laid-then : (state : State) (first : Laid) (next : Spacing → Laid) →
    laid state (then_laid first next) ≡ laid (laid state first) (next first.after)
laid-then state first next =
    ap (λ (lines : List LineView). record state { spacing = (next first.after).after; lines = lines })
    (draws-append state.lines first.marks (next first.after).marks)
