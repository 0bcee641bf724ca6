use Rattle.std.proofs.Common.{◌∙◌}
use Rattle.ansi_feed.proofs.PlainLemmas.{texts-more}
use Rattle.ansi_feed.proofs.plain.push_line_text.Goals as goal

pub loop-span-preserved : goal.loop-span-preserved
loop-span-preserved c =
    texts-more c.loop-span.out.items _ _ c.args.out.now.items c.spans-span-items.result.now c.loop-span.span-index c.span-item.result c.loop-span.invariant
    c.loop-span-test.true c.span-item.is (c.as_bytes.ensures.value ∙ c.text.ensures) c.in_ok-extend_from_slice.ensures.items
