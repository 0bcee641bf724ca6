use Rattle.std.proofs.Common.{◌≡◌, ◌++◌, take}
use Rattle.ansi_feed.proofs.PlainLemmas.{span_texts}
use Rattle.ansi_feed.proofs.plain.push_line_text.Given as goal

abbrev pub invariant-loop-span : goal.invariant-loop-span
invariant-loop-span l = l.out.items ≡ l.initial.out.items ++ span_texts (take l.span-index l.span-items)
