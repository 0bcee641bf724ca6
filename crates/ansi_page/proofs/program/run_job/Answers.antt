use Rattle.std.proofs.Common.{◌≡◌, refl, sym, subst}
use Rattle.programs.specs.Reading.{change_of}
use Rattle.programs.specs.Ran.{Shows}
use Rattle.md_page.specs.Shown.{HasNoView}
use Rattle.ansi_page.specs.Colored.{ColoredCause, colored}
use Rattle.ansi_page.proofs.Weaker.{no_view_shows}
use Rattle.ansi_page.proofs.program.run_job.Goals as goal

pub returns-in-Err-output-clause-ran : goal.returns-in-Err-output-clause-ran
returns-in-Err-output-clause-ran g c =
    subst (λ s. Shows (ColoredCause c.args.job) (colored c.args.job) s (change_of g.R.Source.left g.R.Source.faults c.args.source.now c.read_all.new.source)
    (change_of g.W.Sink.written g.W.Sink.faults c.args.sink.now c.args.sink.now) (c.args.sink.now ≡ c.args.sink.now)) (sym c.status.ensures)
    (no_view_shows c.args.job c.in-Err-output.why _ _ _ _ c.in-Ok.ensures.ok
    (subst (λ bytes. HasNoView c.args.job c.in-Err-output.why bytes) c.deref.ensures.value c.in-Err-output.ensures) refl)
