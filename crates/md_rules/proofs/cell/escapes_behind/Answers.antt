use Rattle.std.proofs.Common.{◌≡◌, ◌<◌, ◌∙◌, length, ap, arith, false, not, sym}
use Rattle.std.proofs.lemmas.Bool.Decides.{nat_tests}
use Rattle.md_rules.proofs.CellLemmas.{escapes_behind-last, escapes_behind-nothing}
use Rattle.md_rules.proofs.cell.escapes_behind.Goals as goal

pub returns-then-not-is_empty : goal.returns-then-not-is_empty
returns-then-not-is_empty c =
    let some : 0 < length c.args.bytes.now = grind (arith, nat_tests, c.is_empty.ensures, c.if-not-is_empty.true) in
    c.escapes.ensures ∙ sym (escapes_behind-last false c.args.bytes.now some)

pub returns-else-not-is_empty : goal.returns-else-not-is_empty
returns-else-not-is_empty c =
    let none : length c.args.bytes.now ≡ 0 = grind (arith, nat_tests, c.is_empty.ensures, c.if-not-is_empty.false) in
    ap not c.if-not-is_empty.false ∙ sym (escapes_behind-nothing c.args.bytes.now none)
