use Rattle.std.proofs.Common.{◌≡◌, drop, map, string_bytes}
use Rattle.md_text.specs.Headings.{class_word}
use Rattle.md_text.specs.Words.{with_words}
use Rattle.md_text.proofs.machine.headings.push_classes.Given as goal

abbrev pub invariant-loop-class : goal.invariant-loop-class
invariant-loop-class l =
    with_words (string_bytes l.text) (map class_word (drop l.class-index l.classes)) ≡ with_words (string_bytes l.fn.text) (map class_word l.classes)
