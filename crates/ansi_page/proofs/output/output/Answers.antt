use Rattle.std.proofs.Common.{◌≡◌, true, false, sym, ap, ◌∙◌}
use Rattle.std.specs.Prelude.{Err}
use Rattle.term_ansi.specs.Printed.{rows_text}
use Rattle.ansi_page.proofs.Printing.{own, no-bad}
use Rattle.ansi_page.proofs.output.output.Goals as goal

pub returns-in-Ok-print_ansi : goal.returns-in-Ok-print_ansi
returns-in-Ok-print_ansi c = (
  c.in-Ok.ensures.0,
  own c.args.job c.args.bytes.now _ c.in-Ok.ensures.1 c.in-Ok-print_ansi.ensures.colors c.in-Ok-print_ansi.ensures.symbols,
  c.in-Ok-print_ansi.ensures.text.0 ∙ ap rows_text c.in-Ok.ensures.1,
)

-- a drawn view has no symbol that cannot be printed
pub unreachable-requires : goal.unreachable-requires
unreachable-requires c =
    let bad = c.print_ansi.ensures.refused (c.in-Err-BadSymbol.is ∙ ap Err c.in-Err-BadSymbol.field-0-is) in
    let both : true ≡ false = sym bad ∙ no-bad c.args.job c.args.bytes.now _ c.in-Ok.ensures.1 in cc
