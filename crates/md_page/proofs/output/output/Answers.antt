use Rattle.std.proofs.Common.{ap₂, ◌∙◌}
use Rattle.view_print.specs.Print.{print}
use Rattle.md_page.proofs.output.output.Goals as goal

pub returns-in-Ok-print_view : goal.returns-in-Ok-print_view
returns-in-Ok-print_view c = (c.in-Ok.ensures.0, c.in-Ok-print_view.ensures ∙ ap₂ print c.in-Ok.ensures.1 c.in-Ok.ensures.2)
