-- What is printed of a buffer after a view of all of it.
use Rattle.std.proofs.Common.{◌≡◌, ℕ, ◌+◌, ◌*◌, ◌<◌, ◌==◌, ◌&&◌, ◌||◌, Bool, true, false, Some, cond, nat_le, nat_lt, List, [], length, refl, sym, ap, ap₂, subst, ◌∙◌, arith}
use Rattle.std.specs.Prelude.{slice_get}
use Rattle.std.proofs.lemmas.Bool.Decides.{nat_tests}
use Rattle.term_core.specs.Text.{LineView}
use Rattle.term_core.specs.Lists.{joined}
use Rattle.term_core.specs.Cells.{view}
use Rattle.term_core.specs.declared.rect.Rect.{Rect}
use Rattle.term_core.specs.Rect.{has_place, place_of, is_empty, intersection}
use Rattle.term_core.specs.Buffers.{BufferView, cell_at}
use Rattle.term_core.specs.BufferRows.{buffer_rows}
use Rattle.term_widgets.specs.Page.{PageView, page_rows, rows_of, any_wider}
use Rattle.term_widgets.proofs.LineLemmas.{AllFit-none, rows_of-none}
use Rattle.term_widgets.proofs.PageLemmas.{buffer_rows-drawn, same_length}
use Rattle.md_events.specs.Blocks.{tree}
use Rattle.md_text.specs.Layout.{document_lines}
use Rattle.md_text.specs.Look.{look_of, default_look, knows_ansi, as_it_is}
use Rattle.md_text.specs.Options.{OptionsView, plain_options}
use Rattle.md_words.specs.declared.job.Job.{Job}
use Rattle.md_page.specs.Shown.{job_look, rows, shown_rows, has_no_cell}

-- the default options with a job's width for tables have the job's look, with the highlighter that knows `ansi`
pub job_look-options : {S : Type 0} (options plain : OptionsView S) (styles : S) (job : Job) → plain ≡ plain_options styles
    → options ≡ record plain { table_width = Some job.width } → look_of options (λ s. default_look.sheet) knows_ansi as_it_is ≡ job_look job
job_look-options {S} options plain styles job e f =
    ap (λ (x : OptionsView S). look_of x (λ s. default_look.sheet) knows_ansi as_it_is) (f ∙ ap (λ (x : OptionsView S). record x { table_width = Some job.width }) e)

-- an area cut to itself is as wide and as high as it is
pub width-same : (r : Rect) → (intersection r r).width ≡ r.width
width-same r = same_length r.x r.width

pub height-same : (r : Rect) → (intersection r r).height ≡ r.height
height-same r = same_length r.y r.height

-- an empty area has no place
has_place-empty : (r : Rect) (x y : ℕ) → is_empty r ≡ true → has_place r x y ≡ false
has_place-empty r x y e = none r.x r.y r.width r.height x y e
  where
    none : (a b w h x y : ℕ) → (w == 0 || h == 0) ≡ true → ((nat_le a x && nat_lt x (a + w)) && (nat_le b y && nat_lt y (b + h))) ≡ false
    none a b w h x y e = grind (arith, nat_tests, e)

-- an area with rows that is empty has no columns
no_columns : (w h : ℕ) → (w == 0 || h == 0) ≡ true → 0 < h → 0 ≡ w
no_columns w h e some = grind (arith, nat_tests, e, some)

module _ (page : PageView) (area : Rect) (old new : BufferView) (scroll : ℕ) (lines : List LineView) (full : length new.cells ≡ new.area.height * new.area.width)
    (same : area ≡ old.area) (kept : new.area ≡ old.area) where
  -- the rows of a buffer with a page drawn on all of it
  drawn_rows : page ≡ record { width = (intersection area old.area).width; lines = lines } → any_wider (intersection area old.area).width lines ≡ false
      → ((x y : ℕ) → cell_at new x y ≡ cond (has_place (intersection area old.area) x y)
      (slice_get (joined (view (rows_of (intersection area old.area).width lines) (intersection area old.area).width (intersection area old.area).height scroll))
      (place_of (intersection area old.area) x y)) (cell_at old x y))
      → buffer_rows new ≡ view (page_rows page) new.area.width new.area.height scroll
  drawn_rows is fits drawn =
      let wide : (intersection area old.area).width ≡ new.area.width = ap (λ r. (intersection r old.area).width) same ∙ width-same old.area ∙ ap (λ r. r.width) (sym kept) in
      subst (λ p. buffer_rows new ≡ view (page_rows p) new.area.width new.area.height scroll) (sym is)
      (buffer_rows-drawn (record { width = (intersection area old.area).width; lines = lines }) area old new scroll fits full same kept (λ _. wide) drawn)

  -- the rows of a buffer without a cell
  no_rows : page ≡ record { width = 0; lines = [] } → is_empty (intersection area old.area) ≡ true → new ≡ old
      → buffer_rows new ≡ view (page_rows page) new.area.width new.area.height scroll
  no_rows is none stays =
      let empty : is_empty new.area ≡ true =
      ap₂ (λ w h. w == 0 || h == 0) (ap (λ (b : BufferView). b.area.width) stays ∙ sym (width-same old.area) ∙ sym (ap (λ r. (intersection r old.area).width) same))
      (ap (λ (b : BufferView). b.area.height) stays ∙ sym (height-same old.area) ∙ sym (ap (λ r. (intersection r old.area).height) same)) ∙ none in
      subst (λ p. buffer_rows new ≡ view (page_rows p) new.area.width new.area.height scroll) (sym is)
      (buffer_rows-drawn (record { width = 0; lines = [] }) area old new scroll (AllFit-none 0) full same kept (no_columns new.area.width new.area.height empty)
      (λ x y. ap (λ b. cell_at b x y) stays ∙ sym (ap (λ b. cond b (slice_get (joined (view (rows_of 0 []) (intersection area old.area).width (intersection area old.area).height scroll))
      (place_of (intersection area old.area) x y)) (cell_at old x y)) (has_place-empty (intersection area old.area) x y none))))

  -- the rows of a buffer after a view of all of it
  pub whole_rows : (is_empty (intersection area old.area) ≡ true → page ≡ record { width = 0; lines = [] })
      → (is_empty (intersection area old.area) ≡ true → new ≡ old)
      → (is_empty (intersection area old.area) ≡ false → page ≡ record { width = (intersection area old.area).width; lines = lines })
      → (is_empty (intersection area old.area) ≡ false → any_wider (intersection area old.area).width lines ≡ false)
      → (is_empty (intersection area old.area) ≡ false → (x y : ℕ) → cell_at new x y ≡ cond (has_place (intersection area old.area) x y)
      (slice_get (joined (view (rows_of (intersection area old.area).width lines) (intersection area old.area).width (intersection area old.area).height scroll))
      (place_of (intersection area old.area) x y)) (cell_at old x y))
      → buffer_rows new ≡ view (page_rows page) new.area.width new.area.height scroll
  whole_rows none stays is fits drawn = go (is_empty (intersection area old.area)) refl
    where
      go : (b : Bool) → is_empty (intersection area old.area) ≡ b → buffer_rows new ≡ view (page_rows page) new.area.width new.area.height scroll
      go true e = no_rows (none e) e (stays e)
      go false e = drawn_rows (is e) (fits e) (drawn e)

-- a job's view has no cell where its area has none
pub has_no_cell-empty : (job : Job) (cut : Rect) → cut.width ≡ job.width → cut.height ≡ job.height → is_empty cut ≡ has_no_cell job
has_no_cell-empty job cut wide high = ap₂ (λ w h. w == 0 || h == 0) wide high

-- the rows of a job's page are those of the page of its view
pub page_rows-shown : (job : Job) (text : List ℕ) (page : PageView) (cut : Rect) → cut.width ≡ job.width → cut.height ≡ job.height
    → (is_empty cut ≡ true → page ≡ record { width = 0; lines = [] })
    → (is_empty cut ≡ false → page ≡ record { width = cut.width; lines = document_lines (job_look job) (tree text) }) → page_rows page ≡ shown_rows job text
page_rows-shown job text page cut wide high none some = go (is_empty cut) refl
  where
    go : (b : Bool) → is_empty cut ≡ b → page_rows page ≡ shown_rows job text
    go true e = ap page_rows (none e) ∙ rows_of-none 0 ∙ sym (ap (λ b. cond b [] (rows (job_look job) text job.width)) (sym (has_no_cell-empty job cut wide high) ∙ e))
    go false e =
        ap page_rows (some e) ∙ ap (λ w. rows_of w (document_lines (job_look job) (tree text))) wide
        ∙ sym (ap (λ b. cond b [] (rows (job_look job) text job.width)) (sym (has_no_cell-empty job cut wide high) ∙ e))
