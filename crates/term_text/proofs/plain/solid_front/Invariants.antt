use Rattle.std.proofs.Common.{◌-◌, ◌≤◌, chars}
use denote.Text.{Utf8}
use denote.Shadow.{shadow}
use Rattle.term_text.specs.Solid.{SolidFront}
use Rattle.term_text.proofs.plain.solid_front.Given as goal

abbrev pub invariant-loop-count : goal.invariant-loop-count
invariant-loop-count l = shadow (Utf8 l.rest) × SolidFront l.count (chars l.text) (chars l.rest) × (l.count ≤ l.most)

abbrev pub decreases-loop-count : goal.decreases-loop-count
decreases-loop-count l = l.most - l.count
