use Rattle.std.proofs.Common.{◌≡◌, take}
use Rattle.ansi_text.proofs.owned.owned_line.Given as goal

abbrev pub invariant-loop-span : goal.invariant-loop-span
invariant-loop-span l = l.copy ≡ record { spans = take l.span-index l.span-items; style = l.line.style }
