use Rattle.std.proofs.Common.{◌≡◌, drop, length}
use Rattle.md_text.specs.declared.environment.Within.TheVariants.{Cell}
use Rattle.md_text.specs.State.{kept}
use Rattle.md_text.proofs.machine.Machine.cell_all.Given as goal

-- the spans that are left make of the state what all spans make of the first one
abbrev pub invariant-loop-span : goal.invariant-loop-span
invariant-loop-span l = kept Cell l.self (drop (length l.yielded) l.fn.spans.items) ≡ kept Cell l.fn.self l.fn.spans.items
