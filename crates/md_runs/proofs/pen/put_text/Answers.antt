use Rattle.std.proofs.Common.{◌++◌, Some, ap, sym, ◌∙◌}
use Rattle.md_runs.specs.Marks.{joined}
use Rattle.md_runs.proofs.TextLemmas.{joined-longer, joined-next, IsPending-longer}
use Rattle.md_runs.proofs.pen.put_text.Goals as goal

pub returns-in-Some-clause-written : goal.returns-in-Some-clause-written
returns-in-Some-clause-written c = λ ss.
    ap (λ x. c.args.out.now.items ++ x) (joined-longer c.args.source.now.text c.args.pen.now.pending c.args.place c.in-Some.text ss (sym c.in-Some.ensures))

pub returns-in-Some-clause-pen : goal.returns-in-Some-clause-pen
returns-in-Some-clause-pen c = record {
  cursor = c.requires.pen.cursor;
  pending = IsPending-longer c.args.source.now.text c.args.pen.now.pending c.args.place c.in-Some.text (sym c.in-Some.ensures) c.requires.pen.pending c.requires.place;
}

pub returns-in_ok-flush-in-None-clause-written : goal.returns-in_ok-flush-in-None-clause-written
returns-in_ok-flush-in-None-clause-written c = λ ss.
    c.in_ok-flush-in-None.ensures.written (joined c.args.source.now.text (Some c.args.place) ss)
    ∙ ap (λ x. c.args.out.now.items ++ x) (joined-next c.args.source.now.text c.args.pen.now.pending c.args.place ss (sym c.in-None.ensures))
