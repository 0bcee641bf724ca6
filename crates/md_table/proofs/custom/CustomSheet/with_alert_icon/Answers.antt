use Rattle.std.proofs.Common.{ap, ◌∙◌}
use Rattle.std.proofs.Math.Path.{fun_ext}
use Rattle.md_table.specs.Answers.{by_kind}
use Rattle.md_table.specs.Custom.{custom_sheet}
use Rattle.md_table.proofs.AnswersLemmas.{apply-at_kind}
use Rattle.md_table.proofs.custom.CustomSheet.with_alert_icon.Goals as goal

pub returns : goal.returns
returns c =
    ap (λ answers. record (custom_sheet c.args.self) { alert_icon = answers })
    (fun_ext (λ other. ap (λ icon. icon.now) (c.with.ensures other)
    ∙ apply-at_kind (λ icon. icon.now) c.args.kind c.args.icon (by_kind c.args.self.alert_icon) other))
