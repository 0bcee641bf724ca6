use Rattle.std.proofs.Common.{◌≡◌, drop, length}
use Rattle.md_text.specs.Laid.{put_laid}
use Rattle.md_text.proofs.Each.{each_left}
use Rattle.md_text.proofs.machine.Machine.put_all.Given as goal

-- the spans that are left make of the state what all spans make of the first one
abbrev pub invariant-loop-span : goal.invariant-loop-span
invariant-loop-span l = each_left put_laid l.self (drop (length l.yielded) l.fn.spans.items) ≡ each_left put_laid l.fn.self l.fn.spans.items
