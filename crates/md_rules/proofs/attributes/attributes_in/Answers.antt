use Rattle.std.proofs.Common.{◌≡◌, ◌∷◌, [], List, ℕ, Option, None, Some, ap, sym, ◌∙◌, refl}
use Rattle.md_rules.specs.Texts.{words}
use Rattle.md_rules.specs.declared.attributes.Attributes.{Attributes}
use Rattle.md_rules.specs.Attributes.{attribute_of, attributes_after, with_word}
use Rattle.md_rules.proofs.attributes.attributes_in.Goals as goal

attributes_after-none : (words : List (List ℕ)) → attributes_after None words ≡ None
attributes_after-none [] = refl
attributes_after-none (word ∷ words) = attributes_after-none words

-- a word that says nothing
says-nothing : (left later : List (List ℕ)) (word : List ℕ) (a : Attributes) (all : Option Attributes) → left ≡ word ∷ later → attribute_of word ≡ None → attributes_after (Some a) left ≡ all → None ≡ all
says-nothing left later word a all e none h =
    sym (attributes_after-none later) ∙ (ap (λ x. attributes_after (with_word (Some a) x) later) (sym none) ∙ (ap (attributes_after (Some a)) (sym e) ∙ h))

pub returns-in_default-attribute_of : goal.returns-in_default-attribute_of
returns-in_default-attribute_of c =
    says-nothing (words c.loop-word.rest.now) (words c.in-Some.after.now) c.in-Some.word.now c.loop-word.so_far _ c.in-Some.ensures.words
    (sym c.attribute_of.ensures ∙ c.in_default-attribute_of.is) c.loop-word.invariant.1
