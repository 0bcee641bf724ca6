use Rattle.std.proofs.Common.{◌++◌, ◌-◌, List, ap, ◌∙◌, drop, length, take}
use Rattle.md_tree.specs.Tree.{Empty, events}
use Rattle.md_lines.specs.Lines.{LineText}
use Rattle.md_rules.specs.Metadata.{metadata_in}
use Rattle.md_rules.proofs.Slices.{slice-rest}
use Rattle.md_events.specs.Blocks.{document}
use Rattle.md_events.specs.Metadata.{metadata_then}
use Rattle.md_events.proofs.MetadataSteps.{document-written}
use Rattle.md_events.proofs.reader.read.Goals as goal

pub returns : goal.returns
returns c =
    let lines : List LineText = c.as_slice-lines.result.now in
    let behind : List LineText = take (length lines - c.in_ok-front.front) (drop c.in_ok-front.front lines) in
    document-written lines behind c.in_ok-front.front _ _ c.in_ok-front.ensures.lines (slice-rest c.in_ok-front.front lines)
    (c.in_ok-front.ensures.written ∙ ap (λ x. x ++ events (metadata_then (metadata_in lines) lines Empty)) c.new-out.ensures.items) c.in_ok-write_blocks.ensures
    ∙ ap (λ ls. events (document ls)) (c.as_slice-lines.ensures.value ∙ c.in_ok-lines.ensures)
