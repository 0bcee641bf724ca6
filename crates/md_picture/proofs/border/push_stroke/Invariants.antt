use Rattle.std.proofs.Common.{◌≡◌, ◌++◌, replicate, string_bytes}
use Rattle.std.specs.Prelude.{codes, encode_utf8_all}
use Rattle.term_text.specs.Lists.{joined}
use Rattle.md_picture.proofs.border.push_stroke.Given as goal

abbrev pub invariant-loop-i : goal.invariant-loop-i
invariant-loop-i l = string_bytes l.text ≡ string_bytes l.fn.text ++ joined (replicate l.i (encode_utf8_all (codes "─")))
