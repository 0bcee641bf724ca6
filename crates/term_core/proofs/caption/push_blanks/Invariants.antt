use Rattle.std.proofs.Common.{◌≡◌, ◌++◌, replicate}
use Rattle.term_core.specs.declared.caption.Stroke.TheVariants.{Blank}
use Rattle.term_core.proofs.caption.push_blanks.Given as goal

abbrev pub invariant-loop-i : goal.invariant-loop-i
invariant-loop-i l = l.out.items ≡ l.initial.out.items ++ replicate l.i Blank
