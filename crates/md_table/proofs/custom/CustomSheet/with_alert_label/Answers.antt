use Rattle.std.proofs.Common.{ap, ◌∙◌}
use Rattle.std.proofs.Math.Path.{fun_ext}
use Rattle.md_table.specs.Answers.{by_kind}
use Rattle.md_table.specs.Custom.{custom_sheet}
use Rattle.md_table.proofs.AnswersLemmas.{apply-at_kind}
use Rattle.md_table.proofs.custom.CustomSheet.with_alert_label.Goals as goal

pub returns : goal.returns
returns c =
    ap (λ answers. record (custom_sheet c.args.self) { alert_label = answers })
    (fun_ext (λ other. ap (λ label. label.now) (c.with.ensures other)
    ∙ apply-at_kind (λ label. label.now) c.args.kind c.args.label (by_kind c.args.self.alert_label) other))
