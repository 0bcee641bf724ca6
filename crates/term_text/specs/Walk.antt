-- What a walk along a row will answer.
use Rattle.std.specs.Prelude.{ℕ, Bool}
use Rattle.term_text.specs.declared.walk.Walk.{Walk}
use Rattle.term_text.specs.Cut.{cut_from}
use Rattle.term_text.specs.LineIter.{line_left}

-- how many graphemes the row has, and whether it is the last
unfoldable pub cut_left : Walk → ℕ × Bool
cut_left s = cut_from s.room s.count s.mark (line_left s.ahead)
