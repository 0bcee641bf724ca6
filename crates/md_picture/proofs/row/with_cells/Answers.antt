use Rattle.std.proofs.Common.{◌≡◌, [], sym, ap, ◌∙◌, drop, arith}
use Rattle.std.proofs.lemmas.Grind.{common_steps}
use Rattle.md_picture.specs.Picture.{with_cells}
use Rattle.md_picture.proofs.Parts.{with_cells-none}
use Rattle.md_picture.proofs.row.with_cells.Goals as goal

pub returns-in_default : goal.returns-in_default
returns-in_default c =
    let none : c.loop-column.rest.rest.items ≡ [] = grind (arith, common_steps, c.in_default.ensures.cases, c.loop-column.rest.rest.ok) in
    sym (with_cells-none c.args.border c.args.style (drop c.loop-column.column-index c.args.columns.now) c.loop-column.longer.items)
    ∙ ap (λ parts. with_cells c.args.border c.args.style (drop c.loop-column.column-index c.args.columns.now) parts c.loop-column.longer.items) (sym none)
    ∙ c.loop-column.invariant
