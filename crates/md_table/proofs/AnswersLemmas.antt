-- A function of answers by level or by kind, one of which is changed.
use Rattle.std.proofs.Common.{◌≡◌, ℕ, Bool, true, false, ◌==◌, refl, if◌then◌else◌}
use Rattle.md_table.specs.declared.alert.AlertKind.{AlertKind}
use Rattle.md_table.specs.AlertKind.{same_kind}
use Rattle.md_table.specs.Answers.{level_class, at_level, at_kind}

apply-if : {A B : Type 0} → (f : A → B) (b : Bool) (x y : A) → f (if b then x else y) ≡ (if b then f x else f y)
apply-if f true x y = refl
apply-if f false x y = refl

pub apply-at_level : {A B : Type 0} → (f : A → B) (level : ℕ) (answer : A) (before : ℕ → A) (other : ℕ)
    → f (at_level level answer before other) ≡ at_level level (f answer) (λ l. f (before l)) other
apply-at_level f level answer before other = apply-if f (level_class other == level_class level) answer (before other)

pub apply-at_kind : {A B : Type 0} → (f : A → B) (kind : AlertKind) (answer : A) (before : AlertKind → A) (other : AlertKind)
    → f (at_kind kind answer before other) ≡ at_kind kind (f answer) (λ k. f (before k)) other
apply-at_kind f kind answer before other = apply-if f (same_kind other kind) answer (before other)
