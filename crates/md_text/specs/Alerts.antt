-- The kind of alert that a quote is.
use Rattle.md_tree.specs.declared.event.BlockQuoteKind.{BlockQuoteKind}
use Rattle.md_tree.specs.declared.event.BlockQuoteKind.TheVariants as quote_kind
use Rattle.md_table.specs.declared.alert.AlertKind.{AlertKind}
use Rattle.md_table.specs.declared.alert.AlertKind.TheVariants as alert_kind

abbrev pub alert_of : BlockQuoteKind → AlertKind
alert_of quote_kind.Note = alert_kind.Note
alert_of quote_kind.Tip = alert_kind.Tip
alert_of quote_kind.Important = alert_kind.Important
alert_of quote_kind.Warning = alert_kind.Warning
alert_of quote_kind.Caution = alert_kind.Caution
