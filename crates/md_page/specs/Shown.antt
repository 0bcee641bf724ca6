-- The page of a text, and what a run shows of it.
use Rattle.std.specs.Prelude.{◌≡◌, ℕ, ◌==◌, ◌||◌, Bool, true, false, ⊤, Some, List, [], length, IsUtf8, if◌then◌else◌}
use Rattle.term_core.specs.BufferRows.{area_rows}
use Rattle.term_core.specs.Buffers.{BufferView, cell_at, cell_put}
use Rattle.term_core.specs.Graph.{Grapheme}
use Rattle.term_core.specs.Lists.{joined}
use Rattle.term_core.specs.Cells.{view}
use Rattle.term_core.specs.declared.rect.Rect.{Rect}
use Rattle.term_core.specs.Rect.{is_empty}
use Rattle.term_widgets.specs.Page.{PageView, rows_of, any_wider}
use Rattle.md_events.specs.Blocks.{tree}
use Rattle.md_text.specs.Look.{Look, ansi_look, default_look}
use Rattle.md_text.specs.Layout.{document_lines}
use Rattle.md_words.specs.declared.job.Job.{Job}
use Rattle.view_print.specs.Print.{print}
use Rattle.md_page.specs.declared.error.ViewError.{ViewError}
use Rattle.md_page.specs.declared.error.ViewError.TheVariants as refusal
use Rattle.md_page.specs.declared.view.NoView.{NoView}
use Rattle.md_page.specs.declared.view.NoView.TheVariants as no
use Rattle.programs.specs.declared.status.Status.{Status}
use Rattle.programs.specs.declared.status.Status.TheVariants.{Done, NotUtf8, TooNarrow, Memory}

-- the rows of a text's page: the wrap, at its width, of the lines that the text's tree lays out
abbrev pub rows : Look → List ℕ → ℕ → List (List Grapheme)
rows look text width = rows_of width (document_lines look (tree text))

-- whether some visible grapheme of the layout is wider than the page
abbrev pub too_wide : Look → List ℕ → ℕ → Bool
too_wide look text width = any_wider width (document_lines look (tree text))

-- the text has a visible grapheme that is wider than the area, and the area has a cell
pub record IsTooNarrow (look : Look) (text : List ℕ) (cut : Rect) : Type 0 where
  pub utf8 : IsUtf8 text
  pub some : is_empty cut ≡ false
  pub wide : too_wide look text cut.width ≡ true

-- the page of a text is drawn on an area: the page's lines are those that the text's tree lays out, none of them too
-- wide, and the area's cells are its rows from the scroll on; no other cell changes
pub record IsDrawn (look : Look) (text : List ℕ) (cut : Rect) (scroll : ℕ) (drawn : PageView) (old new : BufferView) : Type 0 where
  pub page : drawn ≡ record { width = cut.width; lines = document_lines look (tree text) }
  pub fits : too_wide look text cut.width ≡ false
  pub cells : (x y : ℕ) → cell_at new x y ≡ cell_put cut (joined (view (rows look text cut.width) cut.width cut.height scroll)) old x y
  pub rows : area_rows new cut ≡ view (rows look text cut.width) cut.width cut.height scroll

-- why a view of a text is refused
abbrev pub RefusedBy : Look → ViewError → List ℕ → Rect → Type 0
RefusedBy look refusal.Memory text cut = ⊤
RefusedBy look refusal.NotUtf8 text cut = IsUtf8 text → ⊥
RefusedBy look refusal.TooNarrow text cut = IsTooNarrow look text cut

-- a job's text is laid out in the default styles, its tables in the job's width, and code whose info text is `ansi` has the
-- colours that it sets itself
abbrev pub job_look : Job → Look
job_look job = ansi_look default_look.sheet (Some job.width)

-- whether a job's view has no cell
abbrev pub has_no_cell : Job → Bool
has_no_cell job = job.width == 0 || job.height == 0

-- the rows of a job's page; a view without a cell has the page without rows
abbrev pub shown_rows : Job → List ℕ → List (List Grapheme)
shown_rows job text = if has_no_cell job then [] else rows (job_look job) text job.width

-- what a job prints of a text: the view of the rows from the scroll on, and the number of all rows
abbrev pub shown : Job → List ℕ → List ℕ
shown job text = print (view (shown_rows job text) job.width job.height job.scroll) (length (shown_rows job text))

-- a text has an output: it is UTF-8, and no visible grapheme is wider than the view
pub record IsShowable (job : Job) (text : List ℕ) : Type 0 where
  pub utf8 : IsUtf8 text
  pub fits : has_no_cell job ≡ false → too_wide (job_look job) text job.width ≡ false

-- a text has a visible grapheme that is wider than the view
pub record IsNarrow (job : Job) (text : List ℕ) : Type 0 where
  pub utf8 : IsUtf8 text
  pub some : has_no_cell job ≡ false
  pub wide : too_wide (job_look job) text job.width ≡ true

-- what a status says of all the bytes of the source
abbrev pub Cause : Job → Status → List ℕ → Type 0
Cause job Done text = IsShowable job text
Cause job NotUtf8 text = IsUtf8 text → ⊥
Cause job TooNarrow text = IsNarrow job text
Cause job _ text = ⊤

-- how a run ends that has no view to print
abbrev pub status_of : NoView → Status
status_of no.Memory = Memory
status_of no.NotUtf8 = NotUtf8
status_of no.TooNarrow = TooNarrow

-- why there is no view
abbrev pub HasNoView : Job → NoView → List ℕ → Type 0
HasNoView job why text = Cause job (status_of why) text
