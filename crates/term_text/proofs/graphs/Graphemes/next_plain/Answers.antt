use Rattle.std.proofs.Common.{◌==◌, List, ℕ, ◌∷◌, ◌++◌, map, refl, ap, ap₂, sym, ◌∙◌}
use Rattle.std.specs.Str.{chars}
use Rattle.std.proofs.lemmas.Str.{chars-nil}
use Rattle.term_text.specs.Graph.{Grapheme, visible}
use Rattle.term_text.specs.Iter.{graphs_left, pieces_left, plain_left, stretch_left}
use Rattle.term_text.specs.Plain.{byte_grapheme, plain_grapheme}
use Rattle.term_text.proofs.graphs.Graphemes.next_plain.Goals as goal

pub returns-in-None : goal.returns-in-None
unfolding plain_left
returns-in-None c =
    let s = c.args.self.now in
    (ap (λ (text : List ℕ). map (plain_grapheme s.style) (chars text)) c.in-None.ensures ∙ ap (map (plain_grapheme s.style)) chars-nil, refl)

pub returns-in-Some : goal.returns-in-Some
unfolding graphs_left pieces_left plain_left stretch_left
returns-in-Some c =
    let s = c.args.self.now in
    let shown : List Grapheme = visible s.style (pieces_left s) in
    let parts = c.in-Some.ensures in
    let make = λ (symbol : List ℕ) (w : ℕ). let g : Grapheme = record { symbol = symbol; style = s.style; width = w; blank = c.in-Some.c == 32 } in g in
    let more : List Grapheme = map (plain_grapheme s.style) (chars c.in-Some.rest.now) ++ shown in
    ap (λ bs. map (byte_grapheme s.style) bs ++ (map (plain_grapheme s.style) (chars s.plain.now) ++ shown)) c.requires
    ∙ ap (λ cs. map (plain_grapheme s.style) cs ++ shown) parts.0
    ∙ ap₂ (λ symbol w. make symbol w ∷ more) (sym parts.1) (sym c.plain_width.ensures)
    ∙ ap (λ bs. make c.in-Some.symbol.now c.plain_width.result ∷ (map (byte_grapheme s.style) bs ++ more)) (sym c.requires)
