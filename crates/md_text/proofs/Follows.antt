-- What follows an element.
use Rattle.std.proofs.Common.{◌≡◌, List, ◌++◌, ap, sym, refl}
use Rattle.std.proofs.lemmas.List.{append-nil}
use Rattle.md_tree.specs.declared.event.Tag.{Tag}
use Rattle.md_tree.specs.declared.event.Tag.TheVariants as tag
use Rattle.md_tree.specs.Tree.{Nodes, Empty, Branch}
use Rattle.md_text.specs.declared.environment.Environment.{Environment}
use Rattle.md_text.specs.declared.environment.Spacing.{Spacing}
use Rattle.md_text.specs.Marks.{Mark}
use Rattle.md_text.specs.Laid.{then_laid}
use Rattle.md_text.specs.Look.{Look}
use Rattle.md_text.specs.Environment.{environment_inside, environment_after}
use Rattle.md_text.specs.Layout.{branch, layout}

pub layout-follows : (look : Look) (env : Environment) (spacing : Spacing) (t : Tag) (inside rest : Nodes) →
    layout look env spacing (Branch t inside rest)
    ≡ then_laid (layout look env spacing (Branch t inside Empty)) (λ behind. layout look (environment_after env t) behind rest)
layout-follows look env spacing t inside rest =
    let first = branch look env spacing t inside (λ entered. layout look (environment_inside look.sheet env t inside) entered inside) in
    let next = layout look (environment_after env t) first.after rest in
    ap (λ (marks : List Mark). record { marks = marks ++ next.marks; after = next.after }) (sym (append-nil first.marks))

pub environment_after-kept : (env : Environment) (t : Tag) → environment_after env t ≡ record env { number = (environment_after env t).number }
environment_after-kept env tag.Item = refl
environment_after-kept env t = refl
