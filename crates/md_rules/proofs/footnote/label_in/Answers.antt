use Rattle.std.proofs.Common.{◌≡◌, ap, sym, ◌∙◌, arith, true}
use Rattle.std.proofs.lemmas.Str.{IsCharBoundary-after_ascii}
use Rattle.md_rules.specs.Footnotes.{opens_label}
use Rattle.md_rules.proofs.FootnoteLemmas.{opens-two}
use Rattle.md_rules.proofs.footnote.label_in.Goals as goal

pub range_from-requires : goal.range_from-requires
range_from-requires c =
    let opened : opens_label c.args.body.now ≡ true = ap opens_label (sym c.as_bytes.ensures.value) ∙ (sym c.opens_label.ensures ∙ c.if-opens_label.true) in
    let two = opens-two c.args.body.now opened in
    λ _. IsCharBoundary-after_ascii c.args.body.now 1 c.utf8.body two.0 (omega (arith, two.1))
