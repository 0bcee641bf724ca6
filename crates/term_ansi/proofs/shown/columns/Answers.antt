use Rattle.std.proofs.Common.{sym, ap, ◌∙◌}
use Rattle.term_ansi.specs.Printable.{is_printable}
use Rattle.term_ansi.proofs.ShownLemmas.{printable-width}
use Rattle.term_ansi.proofs.shown.columns.Goals as goal

pub returns-then-is_printable : goal.returns-then-is_printable
returns-then-is_printable c = printable-width c.args.symbol.now (ap is_printable (sym c.as_bytes.ensures.value) ∙ sym c.if-is_printable.ensures)
