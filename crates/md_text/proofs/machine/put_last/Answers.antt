use Rattle.std.proofs.Common.{◌∙◌}
use Rattle.md_text.proofs.Lines.{put_last-set, with_span-push}
use Rattle.md_text.proofs.machine.put_last.Goals as goal

pub returns : goal.returns
returns c =
    put_last-set _ _ _ _ _ (c.len-count.ensures ∙ c.args.lines.now.ok.0) c.if-count-eq0.false c.index_mut.ensures.value
    (with_span-push _ _ _ c.requires c.in_ok-push_span.ensures.ok)
