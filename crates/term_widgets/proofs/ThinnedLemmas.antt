-- The rows of a page are the graphemes of its lines without some blanks.
use Rattle.std.proofs.Common.{ℕ, List, [], ◌∷◌, ◌++◌, map, sym, subst}
use Rattle.term_core.specs.Graph.{Grapheme, graphs}
use Rattle.term_core.specs.Lists.{joined}
use Rattle.term_core.specs.Text.{LineView}
use Rattle.term_core.specs.Wrap.{Thinned, none, keep, skip, wrap}
use Rattle.term_text.proofs.RowLemmas.{Thinned-wrap}
use Rattle.term_widgets.specs.Page.{rows_of, AllFit}
use Rattle.term_widgets.proofs.LineLemmas.{AllFit-cons}
use Rattle.term_widgets.proofs.RowLemmas.{joined-append}

Thinned-both : {gs rest : List Grapheme} (hs more : List Grapheme) → Thinned gs rest → Thinned hs more → Thinned (gs ++ hs) (rest ++ more)
Thinned-both hs more none t = t
Thinned-both hs more (keep g s) t = keep g (Thinned-both hs more s t)
Thinned-both hs more (skip g e s) t = skip g e (Thinned-both hs more s t)

pub Thinned-rows_of : (w : ℕ) (lines : List LineView) → AllFit w lines → Thinned (joined (map graphs lines)) (joined (rows_of w lines))
unfolding rows_of
Thinned-rows_of w [] e = none
Thinned-rows_of w (line ∷ lines) e =
    let parts = AllFit-cons w line lines e in
    subst (Thinned (graphs line ++ joined (map graphs lines))) (sym (joined-append (wrap w (graphs line)) (rows_of w lines)))
    (Thinned-both (joined (map graphs lines)) (joined (rows_of w lines)) (Thinned-wrap w (graphs line) parts.0) (Thinned-rows_of w lines parts.1))
