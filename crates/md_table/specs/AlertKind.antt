-- The five kinds of alerts.
use Rattle.std.specs.Prelude.{ℕ, List, codes, Bool, true, false}
use Rattle.md_table.specs.declared.alert.AlertKind.{AlertKind}
use Rattle.md_table.specs.declared.alert.AlertKind.TheVariants.{Note, Tip, Important, Warning, Caution}

-- a kind's label is its name
abbrev pub label : AlertKind → List ℕ
label Note = codes "Note"
label Tip = codes "Tip"
label Important = codes "Important"
label Warning = codes "Warning"
label Caution = codes "Caution"

abbrev pub same_kind : AlertKind → AlertKind → Bool
same_kind Note Note = true
same_kind Tip Tip = true
same_kind Important Important = true
same_kind Warning Warning = true
same_kind Caution Caution = true
same_kind kind other = false
