use Rattle.std.proofs.Common.{ap, ◌∙◌, map}
use Rattle.md_text.specs.Headings.{id_words, class_word, attribute_word}
use Rattle.md_text.specs.Words.{closed, with_words}
use Rattle.md_text.proofs.Words.{closed-parts}
use Rattle.md_text.proofs.machine.headings.attribute_suffix.Goals as goal

pub returns : goal.returns
returns c =
    let a = id_words c.args.id.now in
    let b = map class_word c.args.classes.now in
    let d = map attribute_word c.args.attrs.now in
    c.in_ok-close.ensures
    ∙ ap closed (c.in_ok-push_attributes.ensures
    ∙ ap (λ t. with_words t d) (c.in_ok-push_classes.ensures
    ∙ ap (λ t. with_words t b) (c.in_ok-push_id.ensures ∙ ap (λ t. with_words t a) c.new-text.ensures.bytes)))
    ∙ closed-parts a b d
