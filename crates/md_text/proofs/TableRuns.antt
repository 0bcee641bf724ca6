-- A run over what stands in a table builds the table.
use Rattle.std.proofs.Common.{◌≡◌, List, [], ◌∷◌, ◌++◌, true, false, ap, sym, ◌∙◌, append_assoc}
use Rattle.std.proofs.lemmas.List.{append-nil}
use Rattle.term_text.specs.Text.{SpanView, LineView}
use Rattle.term_text.specs.declared.alignment.Alignment.{Alignment}
use Rattle.md_tree.specs.declared.event.Event.{Event}
use Rattle.md_tree.specs.declared.event.Event.TheVariants as event
use Rattle.md_tree.specs.declared.event.Tag.TheVariants as tag
use Rattle.md_tree.specs.declared.place.Holds.TheVariants as level
use Rattle.md_tree.specs.Tree.{Nodes, Empty, Leaf, Branch, events_then, end_of}
use Rattle.md_tree.specs.Good.{good_at, may_hold, level_of}
use Rattle.md_picture.specs.Cells.{empty_cell}
use Rattle.md_picture.specs.Picture.{TableView}
use Rattle.md_table.specs.Builder.{BuilderView}
use Rattle.md_text.specs.declared.environment.Environment.{Environment}
use Rattle.md_text.specs.declared.environment.Spacing.{Spacing}
use Rattle.md_text.specs.Look.{Look}
use Rattle.md_text.specs.Flat.{flat}
use Rattle.md_text.specs.Tables.{cell, cells, rows, table_of}
use Rattle.md_text.specs.State.{Begun, with_spans, new_builder, run}
use Rattle.md_text.proofs.States.{within_cell, cell_state}
use Rattle.md_text.proofs.GoodNodes.{good-leaf, good-inside, good-behind}
use Rattle.md_text.proofs.PieceSpans.{cell-spans}
use Rattle.md_text.proofs.FlatRuns.{run-flat}
use Rattle.md_text.proofs.FlatPieces.{flat-pieces}

-- between cells the one that is not finished is empty
abbrev pub row_built : TableView → List LineView → BuilderView
row_built table row = record { table = table; row = row; cell = empty_cell }

abbrev pub with_rows : TableView → List (List LineView) → TableView
with_rows table rows = record table { rows = table.rows ++ rows }

-- ---- what may stand in a table

no-leaf-in-cells : (e : Event) → may_hold (level_of level.Cells) e ≡ true → ⊥
no-leaf-in-cells (event.Text bytes) g = cc
no-leaf-in-cells e g = cc

no-leaf-in-rows : (e : Event) → may_hold (level_of level.Rows) e ≡ true → ⊥
no-leaf-in-rows (event.Text bytes) g = cc
no-leaf-in-rows e g = cc

no-leaf-in-head : (e : Event) → may_hold (level_of level.Head) e ≡ true → ⊥
no-leaf-in-head (event.Text bytes) g = cc
no-leaf-in-head e g = cc

-- ---- cells

-- a cell that gets the pieces of its inlines is their cell
built-cell : (look : Look) (env : Environment) (table : TableView) (row : List LineView) (inside : Nodes) →
    with_spans (row_built table row) (flat look env inside) ≡ record (row_built table row) { cell = cell look env inside }
built-cell look env table row inside =
    ap (λ (z : LineView). record (row_built table row) { cell = z })
    (cell-spans empty_cell (flat look env inside)
    ∙ ap (λ (z : List SpanView). record empty_cell { spans = z }) (flat-pieces look env inside))

pub run-cells : (look : Look) (t : Nodes) (es : List Event) (elements : List Begun) (env : Environment) (spacing : Spacing) (table : TableView) (row : List LineView) (lines : List LineView) →
    good_at (level_of level.Cells) t ≡ true →
    run look (events_then t es) (cell_state elements env spacing (row_built table row) lines)
    ≡ run look es (cell_state elements env spacing (row_built table (row ++ cells look (within_cell env) t)) lines)
run-cells look Empty es elements env spacing table row lines g =
    ap (λ (z : List LineView). run look es (cell_state elements env spacing (row_built table z) lines)) (sym (append-nil row))
run-cells look (Leaf e rest) es elements env spacing table row lines g = absurd (no-leaf-in-cells e (good-leaf (level_of level.Cells) e rest g))
run-cells look (Branch tag.TableCell inside rest) es elements env spacing table row lines g =
    let new = cell look (within_cell env) inside in
    let begun : Begun = record { tag = tag.TableCell; environment = within_cell env; start = 0 } in
    let ends = event.End (end_of tag.TableCell) ∷ events_then rest es in
    run-flat look inside ends (begun ∷ elements) env spacing (row_built table row) lines false (good-inside (level_of level.Cells) tag.TableCell inside rest g)
    ∙ ap (λ (b : BuilderView). run look ends (cell_state (begun ∷ elements) env spacing b lines)) (built-cell look (within_cell env) table row inside)
    ∙ run-cells look rest es elements env spacing table (row ++ new ∷ []) lines (good-behind (level_of level.Cells) tag.TableCell inside rest g)
    ∙ ap (λ (z : List LineView). run look es (cell_state elements env spacing (row_built table z) lines))
    (append_assoc row (new ∷ []) (cells look (within_cell env) rest))
run-cells look (Branch t inside rest) es elements env spacing table row lines g = cc

-- ---- rows

pub run-rows : (look : Look) (t : Nodes) (es : List Event) (elements : List Begun) (env : Environment) (spacing : Spacing) (table : TableView) (lines : List LineView) →
    good_at (level_of level.Rows) t ≡ true →
    run look (events_then t es) (cell_state elements env spacing (row_built table []) lines)
    ≡ run look es (cell_state elements env spacing (row_built (with_rows table (rows look (within_cell env) t)) []) lines)
run-rows look Empty es elements env spacing table lines g =
    ap (λ (z : List (List LineView)). run look es (cell_state elements env spacing (row_built (record table { rows = z }) []) lines)) (sym (append-nil table.rows))
run-rows look (Leaf e rest) es elements env spacing table lines g = absurd (no-leaf-in-rows e (good-leaf (level_of level.Rows) e rest g))
run-rows look (Branch tag.TableRow inside rest) es elements env spacing table lines g =
    let new = cells look (within_cell env) inside in
    let begun : Begun = record { tag = tag.TableRow; environment = within_cell env; start = 0 } in
    run-cells look inside (event.End (end_of tag.TableRow) ∷ events_then rest es) (begun ∷ elements) env spacing table [] lines (good-inside (level_of level.Rows) tag.TableRow inside rest g)
    ∙ run-rows look rest es elements env spacing (with_rows table (new ∷ [])) lines (good-behind (level_of level.Rows) tag.TableRow inside rest g)
    ∙ ap (λ (z : List (List LineView)). run look es (cell_state elements env spacing (row_built (record table { rows = z }) []) lines))
    (append_assoc table.rows (new ∷ []) (rows look (within_cell env) rest))
run-rows look (Branch t inside rest) es elements env spacing table lines g = cc

-- ---- the table

-- a good table has its head first, and then rows
pub run-table : (look : Look) (t : Nodes) (es : List Event) (elements : List Begun) (env : Environment) (spacing : Spacing) (alignments : List Alignment) (lines : List LineView) →
    good_at (level_of level.Head) t ≡ true →
    run look (events_then t es) (cell_state elements env spacing (new_builder alignments) lines)
    ≡ run look es (cell_state elements env spacing (row_built (table_of look env alignments t) []) lines)
run-table look Empty es elements env spacing alignments lines g = cc
run-table look (Leaf e rest) es elements env spacing alignments lines g = absurd (no-leaf-in-head e (good-leaf (level_of level.Head) e rest g))
run-table look (Branch tag.TableHead inside rest) es elements env spacing alignments lines g =
    let head = cells look (within_cell env) inside in
    let begun : Begun = record { tag = tag.TableHead; environment = within_cell env; start = 0 } in
    run-cells look inside (event.End (end_of tag.TableHead) ∷ events_then rest es) (begun ∷ elements) env spacing
    (record { alignments = alignments; header = []; rows = [] }) [] lines (good-inside (level_of level.Head) tag.TableHead inside rest g)
    ∙ run-rows look rest es elements env spacing (record { alignments = alignments; header = head; rows = [] }) lines (good-behind (level_of level.Head) tag.TableHead inside rest g)
run-table look (Branch t inside rest) es elements env spacing alignments lines g = cc
