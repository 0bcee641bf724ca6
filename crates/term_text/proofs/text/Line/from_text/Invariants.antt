use Rattle.std.proofs.Common.{◌≡◌, map}
use Rattle.term_text.specs.Style.{no_style}
use Rattle.term_text.specs.Text.{raw_spans}
use Rattle.term_text.proofs.text.Line.from_text.Given as goal

abbrev pub invariant-loop-piece : goal.invariant-loop-piece
invariant-loop-piece l = l.line ≡ record { spans = raw_spans (map (λ x. x.now) l.yielded); style = no_style }
