-- Why a text has no output, and that it has one.
use Rattle.std.proofs.Common.{◌≡◌, ℕ, List, true, false, sym, ◌∙◌, arith}
use Rattle.programs.specs.declared.status.Status.TheVariants.{Done}
use Rattle.programs.proofs.Endings.{HasNoCause}
use Rattle.md_words.specs.declared.job.Job.{Job}
use Rattle.md_page.specs.declared.view.NoView.{NoView}
use Rattle.md_page.specs.declared.view.NoView.TheVariants as no
use Rattle.programs.specs.Reading.{Change, TookAll}
use Rattle.programs.specs.Ran.{Shows}
use Rattle.md_page.specs.Shown.{Cause, HasNoView, shown, status_of}

-- a text that can be shown has no cause to be refused
pub no_cause : (job : Job) (bytes : List ℕ) → Cause job Done bytes → HasNoCause Cause job bytes
no_cause job bytes can = (
  λ not_utf8. not_utf8 can.utf8,
  λ narrow. (let both : true ≡ false = sym narrow.wide ∙ can.fits narrow.some in cc),
)

-- a run that has read all and has no output
pub no_output_shows : (job : Job) (why : NoView) (r w : Change) (taken : List ℕ) (untouched : Type 0) → TookAll r taken → HasNoView job why taken → untouched
    → Shows (Cause job) (shown job) (status_of why) r w untouched
no_output_shows job no.Memory r w taken untouched read cause same =
    record { taken = taken; took = read.took; read = (omega (arith, read.short), read.no_fault); wrote = same }
no_output_shows job no.NotUtf8 r w taken untouched read cause same = record { taken = taken; took = read.took; read = (read, cause); wrote = same }
no_output_shows job no.TooNarrow r w taken untouched read cause same = record { taken = taken; took = read.took; read = (read, cause); wrote = same }
