-- What quotes, alerts, lists and items lay out before what is inside them.
use Rattle.std.specs.Prelude.{ℕ, ◌+◌, ◌==◌, if◌then◌else◌, false, List, ◌++◌, Option, None, Some, codes, length}
use Rattle.md_tree.specs.declared.event.BlockQuoteKind.{BlockQuoteKind}
use Rattle.md_table.specs.declared.alert.AlertKind.{AlertKind}
use Rattle.md_table.specs.Defaults.{bold}
use Rattle.md_table.specs.Sheet.{Sheet}
use Rattle.md_text.specs.declared.environment.Environment.{Environment}
use Rattle.md_text.specs.declared.environment.Spacing.{Spacing}
use Rattle.md_text.specs.declared.environment.Fresh.TheVariants.{Marker}
use Rattle.md_text.specs.Marks.{styled_span}
use Rattle.md_text.specs.Laid.{Laid, nothing_laid, then_laid, open_styled, open_laid, gap_laid, join_laid, put_laid, with_due}
use Rattle.md_text.specs.Alerts.{alert_of}
use Rattle.md_text.specs.Markers.{marker}

-- icon, blank and label; only the one that is not empty if one is
abbrev pub beside : List ℕ → List ℕ → List ℕ
beside icon label =
    if length icon == 0 then label
    else if length label == 0 then icon
    else icon ++ (codes " " ++ label)

abbrev pub alert_title : Sheet → AlertKind → List ℕ
alert_title sheet kind = beside (sheet.alert_icon kind) (sheet.alert_label kind)

-- Alert: Join, and inside one more quote a line of icon and label in the alert's style, bold, and none is due
abbrev pub alert : Sheet → Environment → Spacing → AlertKind → Laid
alert sheet env spacing kind =
    then_laid (join_laid env spacing) (λ joined.
    then_laid (open_styled (env.quotes + 1) (sheet.alert kind) joined) (λ opened.
    then_laid (put_laid opened (styled_span (alert_title sheet kind) (bold (sheet.alert kind)))) (λ titled.
    nothing_laid (with_due false titled))))

-- Quote: Join
abbrev pub quote : Sheet → Environment → Spacing → Option BlockQuoteKind → Laid
quote sheet env spacing None = join_laid env spacing
quote sheet env spacing (Some kind) = alert sheet env spacing (alert_of kind)

-- List: if it stands in no other list, Gap
abbrev pub list : Environment → Spacing → Laid
list env spacing = if env.depth == 0 then gap_laid env spacing else nothing_laid spacing

-- Item: Open, the marker; then the marker is fresh, and no line is due
abbrev pub item : Sheet → Environment → Spacing → Laid
item sheet env spacing =
    then_laid (open_laid env spacing) (λ opened.
    then_laid (put_laid opened (marker sheet env.depth env.number)) (λ marked.
    nothing_laid (record { due = false; fresh = Marker; any_line = marked.any_line })))
