use Rattle.std.proofs.Common.{◌≡◌, length, map, arith}
use Rattle.std.proofs.lemmas.List.{length-map}
use Rattle.md_lines.specs.Lines.{body_of}
use Rattle.md_runs.proofs.SourceLemmas.{line_start-step}
use Rattle.md_runs.proofs.source.line_at.Goals as goal

pub loop-line-preserved : goal.loop-line-preserved
loop-line-preserved c =
    let count : length (map body_of c.args.lines.now) ≡ length c.args.lines.now = length-map c.args.lines.now body_of in
    let step = line_start-step c.loop-line.line (map body_of c.args.lines.now) (omega arith) in
    let more = c.body_length-length.ensures in
    record { within = omega arith; start = omega arith; before = omega arith }
