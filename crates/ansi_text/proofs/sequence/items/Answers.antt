use Rattle.std.proofs.Common.{◌∙◌, ap}
use Rattle.std.specs.Option.{option_map}
use Rattle.ansi_text.specs.Reads.{style_read, with_items}
use Rattle.ansi_text.specs.Sequences.{items}
use Rattle.ansi_text.proofs.SequenceLemmas.{with_items-item, with_items-end, with_items-none}
use Rattle.ansi_text.proofs.sequence.items.Goals as goal

pub returns-in-Some : goal.returns-in-Some
returns-in-Some c = with_items-end c.loop-rest.style c.loop-rest.rest.now _ c.in-Some.ensures ∙ c.loop-rest.invariant

pub returns-in_err-next : goal.returns-in_err-next
returns-in_err-next c =
    ap (option_map style_read) c.from_residual.ensures
    ∙ (with_items-none c.loop-rest.style c.loop-rest.rest.now c.in_default.ensures c.in_err-next.ensures.item ∙ c.loop-rest.invariant)

pub loop-rest-preserved : goal.loop-rest-preserved
loop-rest-preserved c =
    ap (λ style. option_map (with_items style) (items c.in_ok-next.next.rest.now)) c.after_item-style.ensures
    ∙ (with_items-item c.loop-rest.style c.loop-rest.rest.now _ c.in_default.ensures c.in_ok-next.ensures.item ∙ c.loop-rest.invariant)
