-- Answers by level and by kind, and such answers with one of them changed.
use Rattle.std.specs.Prelude.{ℕ, if◌then◌else◌, ◌==◌, ◌&&◌, nat_le}
use Rattle.md_table.specs.declared.alert.AlertKind.{AlertKind}
use Rattle.md_table.specs.declared.alert.AlertKind.TheVariants.{Note, Tip, Important, Warning, Caution}
use Rattle.md_table.specs.AlertKind.{same_kind}
use Rattle.md_table.specs.declared.answers.ByLevel.{ByLevel}
use Rattle.md_table.specs.declared.answers.ByKind.{ByKind}

abbrev pub by_level : {A : Type 0} → ByLevel A → ℕ → A
by_level answers level =
    if level == 1 then answers.first
    else if level == 2 then answers.second
    else if level == 3 then answers.third
    else if level == 4 then answers.fourth
    else if level == 5 then answers.fifth
    else answers.others

abbrev pub by_kind : {A : Type 0} → ByKind A → AlertKind → A
by_kind answers Note = answers.note
by_kind answers Tip = answers.tip
by_kind answers Important = answers.important
by_kind answers Warning = answers.warning
by_kind answers Caution = answers.caution

-- a level from 1 to 5, or 6 for all others, which share an answer
abbrev pub level_class : ℕ → ℕ
level_class level = if nat_le 1 level && nat_le level 5 then level else 6

-- the answers as before, but this one at the level
abbrev pub at_level : {A : Type 0} → ℕ → A → (ℕ → A) → ℕ → A
at_level level answer before other = if level_class other == level_class level then answer else before other

-- the answers as before, but this one at the kind
abbrev pub at_kind : {A : Type 0} → AlertKind → A → (AlertKind → A) → AlertKind → A
at_kind kind answer before other = if same_kind other kind then answer else before other
