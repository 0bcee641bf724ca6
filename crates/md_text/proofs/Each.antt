-- Layouts of things one after another, drawn one by one.
use Rattle.std.proofs.Common.{◌≡◌, ℕ, ◌<◌, ◌+◌, List, ◌∷◌, ap, sym, ◌∙◌, length, get_or, drop, arith}
use Rattle.std.proofs.lemmas.List.{at_drop_more, at_drop_all}
use Rattle.md_text.specs.declared.environment.Spacing.{Spacing}
use Rattle.md_text.specs.Laid.{Laid, each_laid}
use Rattle.md_text.specs.State.{State, laid}
use Rattle.md_text.proofs.Draws.{laid-then}

-- the state once those that are left are laid out
abbrev pub each_left : {A : Type 0} → (Spacing → A → Laid) → State → List A → State
each_left one state rest = laid state (each_laid one state.spacing rest)

pub each_left-one : {A : Type 0} (one : Spacing → A → Laid) (state : State) (all : List A) (k n : ℕ) (x : A) →
    (k < length all) × (x ≡ get_or all k x) → n ≡ k + 1 →
    each_left one (laid state (one state.spacing x)) (drop n all) ≡ each_left one state (drop k all)
each_left-one one state all k n x h e =
    ap (λ (m : ℕ). each_left one (laid state (one state.spacing x)) (drop m all)) e
    ∙ sym (at_drop_more (each_left one state) all k x h.0
    ∙ ap (λ z. each_left one state (z ∷ drop (k + 1) all)) (sym h.1)
    ∙ laid-then state (one state.spacing x) (λ behind. each_laid one behind (drop (k + 1) all)))

pub each_left-end : {A : Type 0} (one : Spacing → A → Laid) (state : State) (all : List A) (k : ℕ) → k ≡ length all →
    state ≡ each_left one state (drop k all)
each_left-end one state all k e = sym (at_drop_all (each_left one state) all k (omega arith))
