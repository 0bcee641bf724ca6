use Rattle.std.proofs.Common.{◌≡◌, ◌<◌, ◌∙◌, ap, ℕ, List, length, Option, Some, None, IfSome, subst, sym}
use Rattle.std.specs.Option.{option_map, option_and_then}
use Rattle.ansi_text.specs.declared.items.Reading.{Reading}
use Rattle.ansi_text.specs.Items.{ItemRead, item, item_of}
use Rattle.ansi_text.specs.Reads.{item_read}
use Rattle.ansi_text.proofs.KeepLemmas.{item-shorter}
use Rattle.ansi_text.proofs.items.item.Goals as goal

shorter : (o : Option Reading) (bs : List ℕ) → option_map item_read o ≡ item bs → IfSome o (λ r. length r.rest.now < length bs)
shorter o bs e = go o (subst (λ (p : Option ItemRead). IfSome p (λ i. length i.rest < length bs)) (sym e) (item-shorter bs))
  where
    go : (p : Option Reading) → IfSome (option_map item_read p) (λ i. length i.rest < length bs) → IfSome p (λ r. length r.rest.now < length bs)
    go None h = tt
    go (Some r) h = h

pub returns-clause-shorter : goal.returns-clause-shorter
returns-clause-shorter c =
    shorter c.item_of.result c.args.bytes.now (c.item_of.ensures ∙ ap (option_and_then item_of) c.in_ok-code.ensures.value)
