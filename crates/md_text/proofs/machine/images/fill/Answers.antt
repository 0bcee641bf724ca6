use Rattle.std.proofs.Common.{rules, ◌≡◌, ◌++◌, ◌<◌, List, OnOk, length, take, drop, ap, sym, subst, ◌∙◌}
use Rattle.term_text.specs.Text.{SpanView}
use Rattle.md_text.specs.declared.options.ImageFallback.{ImageFallback}
use Rattle.md_text.specs.declared.options.ImageFallback.TheVariants.{AltText, AltTextAndUrl}
use Rattle.md_text.specs.Images.{content}
use Rattle.md_text.proofs.ImageLemmas.{below, fill-alt, fill-both}
use Rattle.md_text.proofs.machine.images.fill.Goals as goal

pub returns-in-AltText : goal.returns-in-AltText
returns-in-AltText c =
    let all = c.args.pieces.now.items in
    let lt : c.args.count < length all = below c.args.count (length all) c.requires (λ e. c.if-len-count.false (c.len.ensures ∙ c.args.pieces.now.ok.0 ∙ e)) in
    fill-alt c.args.style c.args.dest_url.now all c.args.count lt
    ∙ ap (λ (f : ImageFallback). take c.args.count all ++ content f c.args.style c.args.dest_url.now (drop c.args.count all)) (let is : c.args.fallback ≡ AltText = search rules in sym is)

pub returns-in-AltTextAndUrl : goal.returns-in-AltTextAndUrl
returns-in-AltTextAndUrl c =
    let all = c.args.pieces.now.items in
    let lt : c.args.count < length all = below c.args.count (length all) c.requires (λ e. c.if-len-count.false (c.len.ensures ∙ c.args.pieces.now.ok.0 ∙ e)) in
    subst (λ (z : List SpanView). OnOk c.push_in_parentheses.result (c.push_in_parentheses.new.pieces.items ≡ z))
    (fill-both c.args.style c.args.dest_url.now all c.args.count lt
    ∙ ap (λ (f : ImageFallback). take c.args.count all ++ content f c.args.style c.args.dest_url.now (drop c.args.count all)) (let is : c.args.fallback ≡ AltTextAndUrl = search rules in sym is))
    c.push_in_parentheses.ensures
