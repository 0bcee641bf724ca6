use Rattle.std.proofs.Common.{ap}
use Rattle.std.proofs.Math.Path.{fun_ext}
use Rattle.md_table.specs.Custom.{custom_sheet}
use Rattle.md_table.proofs.custom.CustomSheet.with_heading.Goals as goal

pub returns : goal.returns
returns c = ap (λ answers. record (custom_sheet c.args.self) { heading = answers }) (fun_ext c.with.ensures)
