use Rattle.std.proofs.Common.{◌≡◌, drop}
use Rattle.md_text.specs.Look.{look_of}
use Rattle.md_text.specs.State.{run}
use Rattle.md_text.proofs.machine.Machine.run.Given as goal

abbrev pub invariant-loop-event : goal.invariant-loop-event
invariant-loop-event g l =
    let look = look_of l.options g.S.StyleSheet.sheet (g.H.Highlighter.known l.highlighter) (g.H.Highlighter.answer l.highlighter) in
    run look (drop l.event-index l.events) l.self ≡ run look l.events l.fn.self
