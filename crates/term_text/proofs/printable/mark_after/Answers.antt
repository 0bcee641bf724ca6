use Rattle.std.proofs.Common.{arith, sym, ◌∙◌}
use Rattle.term_text.proofs.PrintableLemmas.{mark_after-last, mark_after-none}
use Rattle.term_text.proofs.printable.mark_after.Goals as goal

pub returns-in-Some : goal.returns-in-Some
returns-in-Some c =
    let found = c.in-Some.ensures in
    c.mark_of.ensures ∙ sym (mark_after-last c.args.bytes.now c.in-Some.place c.args.count c.args.mark found.0.high found.1 found.0.after)

pub returns-in-None : goal.returns-in-None
returns-in-None c = sym (mark_after-none c.args.bytes.now c.args.count c.args.mark (λ j below is. c.in-None.ensures j (omega arith) below is))
