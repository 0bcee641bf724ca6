use Rattle.std.proofs.Common.{arith}
use Rattle.ansi_feed.proofs.EndedLemmas.{ended-found, unfinished-found, ended-none, unfinished-none}
use Rattle.ansi_feed.proofs.cut.ended_length.Goals as goal

pub returns-in-Some-clause-ended : goal.returns-in-Some-clause-ended
returns-in-Some-clause-ended c =
    ended-found c.args.bytes.now c.in-Some.place c.in-Some.ensures.0.high c.in-Some.ensures.1 c.in-Some.ensures.0.after

pub returns-in-Some-clause-unfinished : goal.returns-in-Some-clause-unfinished
returns-in-Some-clause-unfinished c =
    unfinished-found c.args.bytes.now c.in-Some.place c.in-Some.ensures.0.high c.in-Some.ensures.1 c.in-Some.ensures.0.after

pub returns-in-None-clause-ended : goal.returns-in-None-clause-ended
returns-in-None-clause-ended c = ended-none c.args.bytes.now (λ j below is. c.in-None.ensures j (omega arith) below is)

pub returns-in-None-clause-unfinished : goal.returns-in-None-clause-unfinished
returns-in-None-clause-unfinished c = unfinished-none c.args.bytes.now (λ j below is. c.in-None.ensures j (omega arith) below is)
