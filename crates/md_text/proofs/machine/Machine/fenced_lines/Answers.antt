use Rattle.std.proofs.Common.{ap, sym, ◌∙◌, []}
use Rattle.std.specs.Str.Lines.{lines}
use Rattle.md_text.specs.Laid.{then_laid}
use Rattle.md_text.specs.Look.{look_of}
use Rattle.md_text.specs.Code.{info, fence, code_lines}
use Rattle.md_text.specs.State.{State, laid}
use Rattle.md_text.proofs.Draws.{laid-then}
use Rattle.md_text.proofs.machine.Machine.fenced_lines.Goals as goal

pub returns : goal.returns
returns g c =
    let look = look_of c.args.options.now g.S.StyleSheet.sheet (g.H.Highlighter.known c.args.highlighter.now) (g.H.Highlighter.answer c.args.highlighter.now) in
    let state = c.args.self.now in
    let env = state.environment in
    let all = lines c.args.content.now in
    let first = fence look.sheet env state.spacing (info c.args.kind.now) in
    let between = code_lines look.known look.answer env first.after c.args.kind.now all in
    let begun = c.in_ok-fence.ensures
    ∙ ap (λ styles. laid state (fence (g.S.StyleSheet.sheet styles) env state.spacing c.info.result.now)) c.styles.ensures
    ∙ ap (λ bytes. laid state (fence look.sheet env state.spacing bytes)) c.info.ensures in
    let lined = c.in_ok-code_lines.ensures ∙ ap (λ (s : State). laid s (code_lines look.known look.answer s.environment s.spacing c.args.kind.now all)) begun in
    c.in_ok-fence-2.ensures
    ∙ ap (λ styles. laid c.code_lines.new.self (fence (g.S.StyleSheet.sheet styles) c.code_lines.new.self.environment c.code_lines.new.self.spacing [])) c.styles-2.ensures
    ∙ ap (λ (s : State). laid s (fence look.sheet s.environment s.spacing [])) lined
    ∙ sym (laid-then state first (λ begun. then_laid (code_lines look.known look.answer env begun c.args.kind.now all) (λ behind. fence look.sheet env behind []))
    ∙ laid-then (laid state first) between (λ behind. fence look.sheet env behind []))
