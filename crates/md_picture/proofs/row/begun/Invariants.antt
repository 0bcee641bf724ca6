use Rattle.std.proofs.Common.{◌≡◌, [], ◌∷◌, replicate}
use Rattle.term_text.specs.Style.{no_style}
use Rattle.md_picture.specs.Picture.{bar}
use Rattle.md_picture.proofs.row.begun.Given as goal

abbrev pub invariant-loop-i : goal.invariant-loop-i
invariant-loop-i l = l.lines.items ≡ replicate l.i (record { spans = bar l.border ∷ []; style = no_style })
