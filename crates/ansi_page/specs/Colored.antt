-- What a run prints in colours.
use Rattle.std.specs.Prelude.{ℕ, ⊤, List, Option, Some, None, IsUtf8, if◌then◌else◌}
use Rattle.std.specs.Option.{option_and_then}
use Rattle.term_core.specs.Cells.{view}
use Rattle.term_ansi.specs.Printed.{rows_text}
use Rattle.term_ansi.specs.Clean.{HasOwnControls}
use Rattle.programs.specs.declared.status.Status.{Status}
use Rattle.programs.specs.declared.status.Status.TheVariants.{Done, NotUtf8, TooNarrow}
use Rattle.md_words.specs.declared.job.Job.{Job}
use Rattle.md_words.specs.Words.{job_of}
use Rattle.md_page.specs.Shown.{IsShowable, IsNarrow, has_no_cell, shown_rows}

-- a job whose view has a cell
abbrev pub some_cells : Job → Option Job
some_cells job = if has_no_cell job then None else Some job

-- exactly three words: width, height and scroll, the first two not 0
abbrev pub job_with_cells : List (List ℕ) → Option Job
job_with_cells words = option_and_then some_cells (job_of words)

-- what a job prints of a text: the view of the rows from the scroll on, as lines with sequences
abbrev pub colored : Job → List ℕ → List ℕ
colored job text = rows_text (view (shown_rows job text) job.width job.height job.scroll)

-- what a status says of all the bytes of the source: as for a plain view, and what is printed has no control byte but its own
abbrev pub ColoredCause : Job → Status → List ℕ → Type 0
ColoredCause job Done text = IsShowable job text × HasOwnControls (colored job text)
ColoredCause job NotUtf8 text = IsUtf8 text → ⊥
ColoredCause job TooNarrow text = IsNarrow job text
ColoredCause job _ text = ⊤
