use Rattle.std.proofs.Common.{length, ◌≡◌, Some}
use denote.Text.{Utf8}
use denote.Shadow.{shadow}
use Rattle.md_rules.specs.Texts.{words}
use Rattle.md_rules.specs.Attributes.{attributes_after, attributes_in}
use Rattle.md_rules.proofs.attributes.attributes_in.Given as goal

abbrev pub invariant-loop-word : goal.invariant-loop-word
invariant-loop-word l =
    shadow (Utf8 l.rest) × (attributes_after (Some l.so_far) (words l.rest) ≡ attributes_in (words l.text))

abbrev pub decreases-loop-word : goal.decreases-loop-word
decreases-loop-word l = length l.rest
