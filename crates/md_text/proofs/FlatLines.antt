-- The lines of a text, which go to a cell or an image one by one.
use Rattle.std.proofs.Common.{◌≡◌, ℕ, ◌<◌, ◌+◌, List, [], ◌∷◌, ◌++◌, refl, ap, sym, ◌∙◌, length, get_or, drop, append_assoc, arith}
use Rattle.std.proofs.lemmas.List.{append-nil, at_drop_more, at_drop_all}
use Rattle.term_text.specs.declared.style.Style.{Style}
use Rattle.term_text.specs.Text.{SpanView}
use Rattle.md_table.specs.Builder.{BuilderView}
use Rattle.md_text.specs.declared.environment.Within.{Within}
use Rattle.md_text.specs.declared.environment.Within.TheVariants.{Lines, Code, Cell, Image}
use Rattle.md_text.specs.Marks.{styled_span}
use Rattle.md_text.specs.Spans.{piece}
use Rattle.md_text.specs.Flat.{flat_lines}
use Rattle.md_text.specs.State.{State, kept}
use Rattle.md_text.proofs.PieceSpans.{with_spans-append}

-- pieces that are kept one behind the other
pub kept-kept : (w : Within) (state : State) (a b : List SpanView) → kept w (kept w state a) b ≡ kept w state (a ++ b)
kept-kept Cell state a b = ap (λ (z : BuilderView). record state { builder = z }) (sym (with_spans-append state.builder a b))
kept-kept Lines state a b = ap (λ (z : List SpanView). record state { pieces = z }) (append_assoc state.pieces a b)
kept-kept Code state a b = ap (λ (z : List SpanView). record state { pieces = z }) (append_assoc state.pieces a b)
kept-kept Image state a b = ap (λ (z : List SpanView). record state { pieces = z }) (append_assoc state.pieces a b)

pub kept-within : (w : Within) (state : State) (a : List SpanView) → (kept w state a).environment.within ≡ state.environment.within
kept-within Cell state a = refl
kept-within Lines state a = refl
kept-within Code state a = refl
kept-within Image state a = refl

pub kept-nothing : (w : Within) (state : State) → kept w state [] ≡ state
kept-nothing Cell state = refl
kept-nothing Lines state = ap (λ (z : List SpanView). record state { pieces = z }) (append-nil state.pieces)
kept-nothing Code state = ap (λ (z : List SpanView). record state { pieces = z }) (append-nil state.pieces)
kept-nothing Image state = ap (λ (z : List SpanView). record state { pieces = z }) (append-nil state.pieces)

-- the state once the lines that are left are kept
abbrev pub rest_flat : Style → State → List (List ℕ) → State
rest_flat style state rest = kept state.environment.within state (flat_lines style rest)

pub rest_flat-line : (style : Style) (state : State) (all : List (List ℕ)) (k n : ℕ) (line : List ℕ) →
    (k < length all) × (line ≡ get_or all k line) → n ≡ k + 1 →
    rest_flat style (kept state.environment.within state (piece (styled_span line style))) (drop n all)
    ≡ rest_flat style state (drop k all)
rest_flat-line style state all k n line h e =
    let w = state.environment.within in
    let one = piece (styled_span line style) in
    ap (λ (m : ℕ). rest_flat style (kept w state one) (drop m all)) e
    ∙ ap (λ (v : Within). kept v (kept w state one) (flat_lines style (drop (k + 1) all))) (kept-within w state one)
    ∙ kept-kept w state one (flat_lines style (drop (k + 1) all))
    ∙ sym (at_drop_more (rest_flat style state) all k line h.0
    ∙ ap (λ (z : List ℕ). rest_flat style state (z ∷ drop (k + 1) all)) (sym h.1))

pub rest_flat-end : (style : Style) (state : State) (all : List (List ℕ)) (k : ℕ) → k ≡ length all →
    state ≡ rest_flat style state (drop k all)
rest_flat-end style state all k e =
    sym (at_drop_all (rest_flat style state) all k (omega arith) ∙ kept-nothing state.environment.within state)

-- one span more is kept in a cell
pub kept-one : (state : State) (all : List SpanView) (k n : ℕ) (span : SpanView) →
    (k < length all) × (span ≡ get_or all k span) → n ≡ k + 1 →
    kept Cell (kept Cell state (span ∷ [])) (drop n all) ≡ kept Cell state (drop k all)
kept-one state all k n span h e =
    ap (λ (m : ℕ). kept Cell (kept Cell state (span ∷ [])) (drop m all)) e
    ∙ kept-kept Cell state (span ∷ []) (drop (k + 1) all)
    ∙ sym (at_drop_more (kept Cell state) all k span h.0
    ∙ ap (λ (z : SpanView). kept Cell state (z ∷ drop (k + 1) all)) (sym h.1))
