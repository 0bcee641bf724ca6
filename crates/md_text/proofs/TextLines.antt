-- The lines of a text, laid out one by one.
use Rattle.std.proofs.Common.{◌≡◌, ℕ, ◌<◌, ◌+◌, List, ◌∷◌, Bool, false, ap, sym, ◌∙◌, length, get_or, drop, arith}
use Rattle.std.proofs.lemmas.List.{at_drop_more, at_drop_all}
use Rattle.md_text.specs.Inlines.{text_line, text_lines}
use Rattle.md_text.specs.State.{State, laid}
use Rattle.md_text.proofs.Draws.{laid-then}

-- the state once the lines that are left are laid out
abbrev pub rest_laid : State → Bool → List (List ℕ) → State
rest_laid state is_first rest = laid state (text_lines is_first state.environment state.spacing rest)

pub rest_laid-line : (state : State) (is_first : Bool) (all : List (List ℕ)) (k n : ℕ) (line : List ℕ) →
    (k < length all) × (line ≡ get_or all k line) → n ≡ k + 1 →
    rest_laid (laid state (text_line is_first state.environment state.spacing line)) false (drop n all) ≡ rest_laid state is_first (drop k all)
rest_laid-line state is_first all k n line h e =
    ap (λ (m : ℕ). rest_laid (laid state (text_line is_first state.environment state.spacing line)) false (drop m all)) e
    ∙ sym (at_drop_more (rest_laid state is_first) all k line h.0
    ∙ ap (λ (z : List ℕ). rest_laid state is_first (z ∷ drop (k + 1) all)) (sym h.1)
    ∙ laid-then state (text_line is_first state.environment state.spacing line) (λ behind. text_lines false state.environment behind (drop (k + 1) all)))

pub rest_laid-end : (state : State) (is_first : Bool) (all : List (List ℕ)) (k : ℕ) → k ≡ length all →
    state ≡ rest_laid state is_first (drop k all)
rest_laid-end state is_first all k e = sym (at_drop_all (rest_laid state is_first) all k (omega arith))
