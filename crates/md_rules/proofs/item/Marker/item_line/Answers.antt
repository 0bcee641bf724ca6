use Rattle.std.proofs.Common.{◌≡◌, List, ℕ, ap, sym, subst}
use Rattle.std.specs.Str.{IsCharBoundary, IsUtf8}
use Rattle.md_lines.specs.Lines.{LineText}
use Rattle.md_rules.proofs.ItemLemmas.{marker-boundary}
use Rattle.md_rules.proofs.item.Marker.item_line.Goals as goal

pub behind-requires-clause-place : goal.behind-requires-clause-place
behind-requires-clause-place c =
    let same : c.line.inside.body.now ≡ c.args.line.now.body = ap (λ (l : LineText). l.body) c.line.view_is in
    let utf8 : IsUtf8 c.args.line.now.body = subst (λ (t : List ℕ). IsUtf8 t) same c.line.invariant.0 in
    subst (λ (t : List ℕ). IsCharBoundary t c.args.self.now.length) (sym same) (marker-boundary c.args.line.now c.args.self.now utf8 c.requires)
