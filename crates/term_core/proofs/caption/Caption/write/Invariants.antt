use Rattle.std.proofs.Common.{vec_len}
use Rattle.term_core.proofs.CaptionLemmas.{StruckFrom}
use Rattle.term_core.proofs.caption.Caption.write.Given as goal

abbrev pub invariant-strokes : goal.invariant-strokes
invariant-strokes l = StruckFrom l.x l.y l.initial.rest.items (vec_len l.rest) l.rest.items l.initial.buf l.buf

abbrev pub decreases-strokes : goal.decreases-strokes
decreases-strokes l = vec_len l.rest
