use Rattle.std.proofs.Common.{arith, refl}
use Rattle.std.proofs.lemmas.Grind.{common_steps}
use Rattle.ansi_feed.proofs.Feeding.{fed_nothing, fed_more, fed_end, fed_bad_end, fed_memory, fed_stop}
use Rattle.ansi_feed.proofs.source.feed_all.Goals as goal

pub reading-init : goal.reading-init
reading-init g c = record {
  fed = fed_nothing _ _ _ _ c.requires.empty refl;
  room = c.requires.room;
}

pub reading-preserved : goal.reading-preserved
reading-preserved g c = record {
  fed = fed_more _ _ _ _ _ _ _ _ _ _ _ c.reading.invariant.fed c.in-Ok.ensures.step;
  room = grind (arith, common_steps);
}

pub returns-in-Ok-finish-clause-ok : goal.returns-in-Ok-finish-clause-ok
returns-in-Ok-finish-clause-ok g c =
    fed_end _ _ _ _ _ _ _ _ _ _ _ _ c.reading.invariant.fed c.in-Ok-eq0.ensures.step c.in-Ok-eq0.field-0-test
    c.in-Ok-finish.ensures.ok c.in-Ok-finish.ensures.text

pub returns-in-Err-Memory-clause-stopped : goal.returns-in-Err-Memory-clause-stopped
returns-in-Err-Memory-clause-stopped g c =
    fed_memory _ _ _ _ _ _ _ _ _ _ _ c.reading.invariant.fed c.in-Ok-eq0.ensures.step

pub returns-in-Err-Utf8Error-clause-stopped : goal.returns-in-Err-Utf8Error-clause-stopped
returns-in-Err-Utf8Error-clause-stopped g c =
    fed_bad_end _ _ _ _ _ _ _ _ _ _ _ c.reading.invariant.fed c.in-Ok-eq0.ensures.step c.in-Ok-eq0.field-0-test
    (c.in-Err-Utf8Error.ensures.not_text c.in-Err-Utf8Error.field-0-is)

pub returns-in-Err-clause-stopped : goal.returns-in-Err-clause-stopped
returns-in-Err-clause-stopped g c = fed_stop _ _ _ _ _ _ _ _ _ _ c.reading.invariant.fed c.in-Err.ensures.stopped
