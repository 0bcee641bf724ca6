use Rattle.std.proofs.Common.{◌≡◌, ◌<◌, ◌+◌, ◌==◌, length, drop, map, get_or, ◌++◌, ◌∷◌, [], List, ℕ, ap, ap₂, sym, subst, ◌∙◌, arith, length-drop}
use Rattle.term_text.specs.Graph.{Grapheme, visible}
use Rattle.term_text.specs.Iter.{stretch_left, graphs_left, pieces_left, plain_left}
use Rattle.term_text.specs.Plain.{byte_grapheme}
use Rattle.term_text.proofs.GraphLemmas.{stretch-next, one-byte}
use Rattle.term_text.proofs.graphs.Graphemes.next_byte.Goals as goal

pub bounds-as_bytes-at : goal.bounds-as_bytes-at
unfolding stretch_left
bounds-as_bytes-at c =
    let s = c.args.self.now in
    let some : s.passed < length s.stretch.now = omega (arith, c.requires, length-drop s.passed s.stretch.now) in
    subst (λ (bs : List ℕ). s.passed < length bs) (sym c.as_bytes.ensures.value) some

pub invariant_of-self : goal.invariant_of-self
unfolding stretch_left
invariant_of-self c =
    let s = c.args.self.now in
    let some : s.passed < length s.stretch.now = omega (arith, c.requires, length-drop s.passed s.stretch.now) in
    record { printable = s.printable; within = omega arith }

pub returns : goal.returns
unfolding stretch_left graphs_left pieces_left plain_left
returns c =
    let s = c.args.self.now in
    let some : s.passed < length s.stretch.now = omega (arith, c.requires, length-drop s.passed s.stretch.now) in
    let symbol : c.range.result.now ≡ get_or s.stretch.now s.passed 0 ∷ [] = c.range.ensures.value ∙ one-byte s.stretch.now s.passed some in
    let make = λ (symbol : List ℕ) (bytes : List ℕ).
    let g : Grapheme = record { symbol = symbol; style = s.style; width = 1; blank = get_or bytes s.passed 0 == 32 } in g in
    stretch-next s.style s.stretch.now s.passed (plain_left s ++ visible s.style (pieces_left s)) some
    ∙ ap (λ g. g ∷ (map (byte_grapheme s.style) (drop (s.passed + 1) s.stretch.now) ++ (plain_left s ++ visible s.style (pieces_left s))))
    (sym (ap₂ make symbol c.as_bytes.ensures.value))
