-- What a run of a coloured view says is what a run of a plain view says, and more.
use Rattle.std.proofs.Common.{◌≡◌, ℕ, List, true, false, sym, ◌∙◌, arith}
use Rattle.std.specs.Prelude.{Option, Some, None, IfSome}
use Rattle.std.specs.Io.KnownBytes.{Appends, IsAtEnd}
use Rattle.programs.specs.declared.status.Status.{Status}
use Rattle.programs.specs.declared.status.Status.TheVariants.{Done, Usage, ReadFault, TooLong, NotUtf8, TooNarrow, WriteFault, Memory}
use Rattle.programs.specs.Reading.{Change, TookAll}
use Rattle.programs.specs.Ran.{HasRead, Shows, Ran}
use Rattle.md_words.specs.declared.job.Job.{Job}
use Rattle.md_page.specs.declared.view.NoView.{NoView}
use Rattle.md_page.specs.declared.view.NoView.TheVariants as no
use Rattle.md_page.specs.Shown.{Cause, HasNoView, IsShowable, status_of}
use Rattle.term_ansi.specs.Clean.{HasOwnControls}
use Rattle.ansi_page.specs.Colored.{ColoredCause, colored}

cause-weaker : (job : Job) (status : Status) (text : List ℕ) → ColoredCause job status text → Cause job status text
cause-weaker job Done text h = h.0
cause-weaker job Usage text h = h
cause-weaker job ReadFault text h = h
cause-weaker job TooLong text h = h
cause-weaker job NotUtf8 text h = h
cause-weaker job TooNarrow text h = h
cause-weaker job WriteFault text h = h
cause-weaker job Memory text h = h

read-weaker : (job : Job) (status : Status) (r : Change) (taken : List ℕ) → HasRead (ColoredCause job) status r taken → HasRead (Cause job) status r taken
read-weaker job Done r taken h = (h.0, h.1.0)
read-weaker job Usage r taken h = h
read-weaker job ReadFault r taken h = h
read-weaker job TooLong r taken h = h
read-weaker job NotUtf8 r taken h = (h.0, cause-weaker job NotUtf8 taken h.1)
read-weaker job TooNarrow r taken h = (h.0, cause-weaker job TooNarrow taken h.1)
read-weaker job WriteFault r taken h = (h.0, h.1.0)
read-weaker job Memory r taken h = h

pub ran-weaker : (o : Option Job) (status : Status) (r w : Change) (unread untouched : Type 0)
    → Ran ColoredCause colored o status r w unread untouched → Ran Cause colored o status r w unread untouched
ran-weaker None status r w unread untouched h = h
ran-weaker (Some job) status r w unread untouched h =
    record { taken = h.taken; took = h.took; read = read-weaker job status r h.taken h.read; wrote = h.wrote }

-- what is known after `Done`, part by part
pub done-parts : (old new before now : Option (List ℕ)) (job : Job)
    → IfSome old (λ bytes. IsAtEnd new × ColoredCause job Done bytes × Appends before now (colored job bytes))
    → IfSome old (λ bytes. IsAtEnd new × IsShowable job bytes × HasOwnControls (colored job bytes) × Appends before now (colored job bytes))
done-parts None new before now job h = tt
done-parts (Some bytes) new before now job h = (h.0, h.1.0, h.1.1, h.2)

-- a run that has read all and has no view to print
pub no_view_shows : (job : Job) (why : NoView) (r w : Change) (taken : List ℕ) (untouched : Type 0) → TookAll r taken → HasNoView job why taken → untouched
    → Shows (ColoredCause job) (colored job) (status_of why) r w untouched
no_view_shows job no.Memory r w taken untouched read cause same =
    record { taken = taken; took = read.took; read = (omega (arith, read.short), read.no_fault); wrote = same }
no_view_shows job no.NotUtf8 r w taken untouched read cause same = record { taken = taken; took = read.took; read = (read, cause); wrote = same }
no_view_shows job no.TooNarrow r w taken untouched read cause same = record { taken = taken; took = read.took; read = (read, cause); wrote = same }
