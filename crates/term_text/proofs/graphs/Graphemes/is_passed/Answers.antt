use Rattle.std.proofs.Common.{◌≡◌, ℕ, ◌≤◌, ◌==◌, true, false, not, Option, Some, None, List, [], ◌∷◌, length, refl, sym, ap, ◌∙◌, arith}
use Rattle.std.proofs.lemmas.Bool.{eqb-true}
use Rattle.std.specs.Option.{is_some}
use Rattle.term_text.proofs.GraphLemmas.{graphs_left-passed}
use Rattle.term_text.proofs.graphs.Graphemes.is_passed.Goals as goal

nothing : (xs : List ℕ) → true ≡ (length xs == 0) → xs ≡ []
nothing [] h = refl
nothing (x ∷ xs) h = let none = eqb-true (length (x ∷ xs)) 0 (sym h) in absurd (omega (arith, none))

none_is : {A : Type 0} (o : Option A) → is_some o ≡ false → o ≡ None
none_is None h = refl
none_is (Some x) h = cc

pub returns-then-is_none : goal.returns-then-is_none
returns-then-is_none c e =
    let s = c.args.self.now in
    let all : length s.stretch.now ≤ s.passed = omega (arith, c.if-self.false) in
    graphs_left-passed s all (nothing s.plain.now c.if-not-is_empty.ensures) (none_is s.glyph c.if-is_none.ensures)
    (none_is s.pieces (c.is_none-then-is_none.ensures ∙ ap not e))
