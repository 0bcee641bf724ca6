-- What is printed of a drawn view.
use Rattle.std.proofs.Common.{◌≡◌, ℕ, Bool, true, false, cond, List, [], refl, sym, ap, subst, ◌∙◌}
use Rattle.std.specs.List.{list_all}
use Rattle.term_core.specs.Cells.{CellView, view}
use Rattle.term_core.specs.Graph.{Grapheme}
use Rattle.term_core.specs.Text.{LineView}
use Rattle.term_widgets.specs.Page.{rows_of}
use Rattle.term_widgets.proofs.LineLemmas.{rows_of-none}
use Rattle.term_ansi.specs.Printed.{rows_text}
use Rattle.term_ansi.specs.Runs.{is_byte_row}
use Rattle.term_ansi.specs.Texts.{is_text_row, has_bad_text}
use Rattle.term_ansi.specs.Clean.{is_clean_row, HasOwnControls}
use Rattle.term_ansi.proofs.CleanLemmas.{own-controls}
use Rattle.term_ansi.proofs.ViewLemmas.{no-bad-view, clean-view}
use Rattle.md_events.specs.Blocks.{tree}
use Rattle.md_text.specs.Layout.{document_lines}
use Rattle.md_words.specs.declared.job.Job.{Job}
use Rattle.md_page.specs.Shown.{job_look, has_no_cell, rows, shown_rows}
use Rattle.ansi_page.specs.Colored.{colored}

-- the rows of a job's page are those of lines
rows-are : (job : Job) (text : List ℕ) → (lines : List LineView) × (shown_rows job text ≡ rows_of job.width lines)
rows-are job text = go (has_no_cell job)
  where
    go : (v : Bool) → (lines : List LineView) × (cond v [] (rows (job_look job) text job.width) ≡ rows_of job.width lines)
    go true = ([], sym (rows_of-none job.width))
    go false = (document_lines (job_look job) (tree text), refl)

-- the view of a text has no symbol that cannot be printed
pub no-bad : (job : Job) (text : List ℕ) (cells : List (List CellView)) → cells ≡ view (shown_rows job text) job.width job.height job.scroll → has_bad_text cells ≡ false
no-bad job text cells is =
    let shown = rows-are job text in
    ap has_bad_text (is ∙ ap (λ (rs : List (List Grapheme)). view rs job.width job.height job.scroll) shown.1)
    ∙ no-bad-view job.width shown.0 job.width job.height job.scroll

-- and no control byte but its own
pub own : (job : Job) (text : List ℕ) (cells : List (List CellView)) → cells ≡ view (shown_rows job text) job.width job.height job.scroll
    → list_all is_byte_row cells ≡ true → list_all is_text_row cells ≡ true → HasOwnControls (colored job text)
own job text cells is bytes texts =
    let shown = rows-are job text in
    let same = is ∙ ap (λ (rs : List (List Grapheme)). view rs job.width job.height job.scroll) shown.1 in
    let clean : list_all is_clean_row cells ≡ true =
    ap (list_all is_clean_row) same ∙ clean-view job.width shown.0 job.width job.height job.scroll (sym (ap (list_all is_text_row) same) ∙ texts) in
    subst (λ (rs : List (List CellView)). HasOwnControls (rows_text rs)) is (own-controls cells bytes clean)
