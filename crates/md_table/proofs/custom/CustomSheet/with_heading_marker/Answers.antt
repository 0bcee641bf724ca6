use Rattle.std.proofs.Common.{ap, ◌∙◌}
use Rattle.std.proofs.Math.Path.{fun_ext}
use Rattle.md_table.specs.Answers.{by_level}
use Rattle.md_table.specs.Custom.{custom_sheet}
use Rattle.md_table.proofs.AnswersLemmas.{apply-at_level}
use Rattle.md_table.proofs.custom.CustomSheet.with_heading_marker.Goals as goal

pub returns : goal.returns
returns c =
    ap (λ answers. record (custom_sheet c.args.self) { heading_marker = answers })
    (fun_ext (λ other. ap (λ marker. marker.now) (c.with.ensures other)
    ∙ apply-at_level (λ marker. marker.now) c.args.level c.args.marker (by_level c.args.self.heading_marker) other))
