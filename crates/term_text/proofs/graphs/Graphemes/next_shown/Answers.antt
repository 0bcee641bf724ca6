use Rattle.std.proofs.Common.{ap, ◌∙◌, sym, ◌≡◌, ◌∷◌}
use Rattle.term_text.specs.Iter.{graphs_left, grapheme}
use Rattle.term_text.specs.Graph.{grapheme_of}
use Rattle.term_text.proofs.GraphLemmas.{AtPieces, graphs_left-hidden, graphs_left-shown, graphs_left-end}
use Rattle.term_text.proofs.graphs.Graphemes.next_shown.Goals as goal

pub returns-in-Some-graph_of : goal.returns-in-Some-graph_of
returns-in-Some-graph_of c =
    let found = c.in-Some-graph_of.ensures in
    let none = c.loop-piece.invariant in
    let before : AtPieces c.loop-piece.self = record { stretch = none.1; plain = none.2 } in
    let after : AtPieces c.next_piece.new.self = record { stretch = c.in-Some.ensures.stretch ∙ none.1; plain = c.in-Some.ensures.plain ∙ none.2 } in
    let step = graphs_left-shown _ _ _ before after c.in-Some.ensures.piece c.in-Some.ensures.style found.0 in
    let same : grapheme c.in-Some-graph_of.graph ≡ grapheme_of c.loop-piece.self.style c.in-Some.piece.now =
    found.1 ∙ ap (λ y. grapheme_of y c.in-Some.piece.now) c.in-Some.ensures.style in
    sym none.0 ∙ step ∙ ap (λ g. g ∷ graphs_left c.next_piece.new.self) (sym same)

pub loop-piece-preserved : goal.loop-piece-preserved
loop-piece-preserved c =
    let none = c.loop-piece.invariant in
    let before : AtPieces c.loop-piece.self = record { stretch = none.1; plain = none.2 } in
    let after : AtPieces c.next_piece.new.self = record { stretch = c.in-Some.ensures.stretch ∙ none.1; plain = c.in-Some.ensures.plain ∙ none.2 } in (
      graphs_left-hidden _ _ _ before after c.in-Some.ensures.piece c.in-Some.ensures.style c.in_default-graph_of.ensures ∙ none.0,
      after.stretch,
      after.plain,
    )

pub returns : goal.returns
returns c =
    let none = c.loop-piece.invariant in
    let before : AtPieces c.loop-piece.self = record { stretch = none.1; plain = none.2 } in
    let after : AtPieces c.next_piece.new.self = record { stretch = c.in_default.ensures.stretch ∙ none.1; plain = c.in_default.ensures.plain ∙ none.2 } in (
      sym none.0 ∙ graphs_left-end _ before c.in_default.ensures.piece.0,
      graphs_left-end _ after c.in_default.ensures.piece.1,
    )
