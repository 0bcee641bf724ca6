use Rattle.std.proofs.Common.{length, ap, sym}
use Rattle.md_lines.specs.Lines.{LineText}
use Rattle.md_runs.proofs.SourceLemmas.{body_at-map}
use Rattle.md_runs.proofs.source.body_length.Goals as goal

pub returns : goal.returns
returns c =
    ap length (sym (body_at-map c.args.at c.args.lines.now _ _ c.requires c.index-lines-at.is (sym (ap (λ (l : LineText). l.body) c.line.view_is))))
