use Rattle.std.proofs.Common.{◌≡◌, drop, map, string_bytes}
use Rattle.md_text.specs.Headings.{attribute_word}
use Rattle.md_text.specs.Words.{with_words}
use Rattle.md_text.proofs.machine.headings.push_attributes.Given as goal

abbrev pub invariant-loop-attribute : goal.invariant-loop-attribute
invariant-loop-attribute l =
    with_words (string_bytes l.text) (map attribute_word (drop l.attribute-index l.attrs)) ≡ with_words (string_bytes l.fn.text) (map attribute_word l.attrs)
