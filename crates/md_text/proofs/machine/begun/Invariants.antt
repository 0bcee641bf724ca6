use Rattle.std.proofs.Common.{◌≡◌}
use Rattle.std.specs.Prelude.{replicate, codes}
use Rattle.md_text.specs.Marks.{plain_span}
use Rattle.md_text.proofs.machine.begun.Given as goal

abbrev pub invariant-loop : goal.invariant-loop
invariant-loop l = l.line ≡ record { spans = replicate l.counter (plain_span (codes ">")); style = l.fn.style }
