-- The machine that lays out a tree from its events, one by one.
use Rattle.std.specs.Prelude.{ℕ, ◌+◌, nat_lt, if◌then◌else◌, List, [], ◌∷◌, ◌++◌, drop, fold, length, take}
use Rattle.term_text.specs.Text.{SpanView, LineView}
use Rattle.term_text.specs.declared.alignment.Alignment.{Alignment}
use Rattle.md_tree.specs.declared.event.Event.{Event}
use Rattle.md_tree.specs.declared.event.Event.TheVariants as event
use Rattle.md_tree.specs.declared.event.Tag.{Tag}
use Rattle.md_tree.specs.declared.event.Tag.TheVariants as tag
use Rattle.md_tree.specs.Tree.{Empty}
use Rattle.md_picture.specs.Cells.{empty_cell}
use Rattle.md_table.specs.Builder.{BuilderView, with_span}
use Rattle.md_table.specs.Sheet.{Sheet}
use Rattle.md_text.specs.declared.environment.Environment.{Environment}
use Rattle.md_text.specs.declared.environment.Spacing.{Spacing}
use Rattle.md_text.specs.declared.environment.Within.{Within}
use Rattle.md_text.specs.declared.environment.Within.TheVariants.{Lines, Code, Cell, Image}
use Rattle.md_text.specs.Marks.{draws, plain_span}
use Rattle.md_text.specs.Laid.{Laid, join_all}
use Rattle.md_text.specs.Look.{Look}
use Rattle.md_text.specs.Environment.{first_environment, first_spacing, environment_inside, environment_after}
use Rattle.md_text.specs.Texts.{leaf_text}
use Rattle.md_text.specs.Blocks.{enter, leave}
use Rattle.md_text.specs.Inlines.{leaf}
use Rattle.md_text.specs.Code.{code_block}
use Rattle.md_text.specs.Html.{html_block}
use Rattle.md_text.specs.Flat.{flat_behind, flat_leaf, image_in}
use Rattle.md_text.specs.Tables.{table}

-- ---- tables while they are built

-- a table without cells
abbrev pub new_builder : List Alignment → BuilderView
new_builder alignments =
    record { table = record { alignments = alignments; header = []; rows = [] }; row = []; cell = empty_cell }

-- spans added to the cell that is not finished
abbrev pub with_spans : BuilderView → List SpanView → BuilderView
with_spans builder spans = record builder { cell = fold (λ cell span. with_span cell span) builder.cell spans }

-- a table starts, or a cell
abbrev pub started_in_table : BuilderView → Tag → BuilderView
started_in_table builder (tag.Table alignments) = new_builder alignments
started_in_table builder tag.TableCell = record builder { cell = empty_cell }
started_in_table builder _ = builder

-- a part of a table ends
abbrev pub ended_in_table : BuilderView → Tag → BuilderView
ended_in_table builder tag.TableCell = record builder { row = builder.row ++ builder.cell ∷ []; cell = empty_cell }
ended_in_table builder tag.TableHead = record builder { table = record builder.table { header = builder.row }; row = [] }
ended_in_table builder tag.TableRow =
    record builder { table = record builder.table { rows = builder.table.rows ++ builder.row ∷ [] }; row = [] }
ended_in_table builder _ = builder

-- behind a table none is being built
abbrev pub builder_behind : BuilderView → Tag → BuilderView
builder_behind builder (tag.Table alignments) = new_builder []
builder_behind builder _ = builder

-- ---- the state

-- an element that has begun, the environment round it, and how many pieces stood before it
pub record Begun : Type 0 where
  pub tag : Tag
  pub environment : Environment
  pub start : ℕ

-- the open elements, innermost first, the environment and the spacing state here, the content of the open block of code,
-- the open table and the pieces of open images so far, and the lines so far
pub record State : Type 0 where
  pub open_elements : List Begun
  pub environment : Environment
  pub spacing : Spacing
  pub content : List ℕ
  pub builder : BuilderView
  pub pieces : List SpanView
  pub lines : List LineView

abbrev pub first_state : State
first_state =
    record {
      open_elements = [];
      environment = first_environment;
      spacing = first_spacing;
      content = [];
      builder = new_builder [];
      pieces = [];
      lines = [];
    }

-- a layout is drawn
abbrev pub laid : State → Laid → State
laid state new =
    record {
      open_elements = state.open_elements;
      environment = state.environment;
      spacing = new.after;
      content = state.content;
      builder = state.builder;
      pieces = state.pieces;
      lines = draws state.lines new.marks;
    }

-- an image leaves a place for its marker, which is known at its end
abbrev pub with_place : List SpanView → Tag → List SpanView
with_place pieces (tag.Image dest) = pieces ++ plain_span [] ∷ []
with_place pieces _ = pieces

-- an element starts: what it lays out before its inside, and it is kept for its end; nothing inside it is known yet
abbrev pub started : Sheet → State → Tag → State
started sheet state tag =
    let entered = enter sheet state.environment state.spacing tag in
    record {
      open_elements = record { tag = tag; environment = state.environment; start = length state.pieces } ∷ state.open_elements;
      environment = environment_inside sheet state.environment tag Empty;
      spacing = entered.after;
      content = state.content;
      builder = started_in_table state.builder tag;
      pieces = with_place state.pieces tag;
      lines = draws state.lines entered.marks;
    }

-- the environment behind an element that was begun; a task mark in a paragraph has told the width of the item round it
abbrev pub restored_from : Environment → Tag → Environment → Environment
restored_from outer tag.Paragraph inner = record outer { item_width = inner.item_width }
restored_from outer t inner = environment_after outer t

abbrev pub restored : Begun → Environment → Environment
restored element inner = restored_from element.environment element.tag inner

-- what an element lays out at its end: blocks of code and HTML and tables as a whole
abbrev pub left : Look → State → Tag → Laid
left look state (tag.CodeBlock kind) = code_block look state.environment state.spacing kind state.content
left look state tag.HtmlBlock = html_block look.sheet state.environment state.spacing state.content
left look state (tag.Table alignments) = table look state.environment state.spacing state.builder.table
left look state tag = leave look.sheet state.environment state.spacing tag

-- pieces go to the open cell, or to those of the open image
abbrev pub kept : Within → State → List SpanView → State
kept Cell state spans = record state { builder = with_spans state.builder spans }
kept _ state spans = record state { pieces = state.pieces ++ spans }

-- an element ends in a table, in an image, or elsewhere
abbrev pub ended_within : Within → Look → State → Tag → State
ended_within Cell look state (tag.Link dest) = kept Cell state (flat_behind look.sheet (tag.Link dest))
ended_within Cell look state tag = record state { builder = ended_in_table state.builder tag }
ended_within Image look state (tag.Link dest) = kept Image state (flat_behind look.sheet (tag.Link dest))
ended_within Image look state tag = state
ended_within _ look state tag =
    laid (record state { content = []; builder = builder_behind state.builder tag }) (left look state tag)

-- an image outside cells and images is laid out
abbrev pub image_put : Within → State → List SpanView → State
image_put Cell state spans = kept Cell state spans
image_put Image state spans = kept Image state spans
image_put _ state spans = laid state (join_all state.environment state.spacing spans)

-- an image ends whose pieces stand behind so many others and its place
abbrev pub image_ended : Look → State → ℕ → List ℕ → State
image_ended look state start dest =
    if nat_lt start (length state.pieces)
    then image_put state.environment.within (record state { pieces = take start state.pieces })
    (image_in look state.environment dest (drop (start + 1) state.pieces))
    else state

abbrev pub ended_by : Look → State → ℕ → Tag → State
ended_by look state start (tag.Image dest) = image_ended look state start dest
ended_by look state start tag = ended_within state.environment.within look state tag

-- an element ends, in the environment from before it
abbrev pub ended_from : Look → State → List Begun → State
ended_from look state [] = state
ended_from look state (element ∷ outer) =
    let env = restored element state.environment in
    ended_by look (record state { open_elements = outer; environment = env }) element.start element.tag

abbrev pub ended : Look → State → State
ended look state = ended_from look state state.open_elements

-- a task mark makes its item wider
abbrev pub environment_behind : Environment → Event → Environment
environment_behind env (event.TaskListMarker is_done) = record env { item_width = env.item_width + 4 }
environment_behind env e = env

-- a leaf is laid out, is content of a block of code, or goes to a cell or an image
abbrev pub leaf_within : Within → Sheet → State → Event → State
leaf_within Lines sheet state e = laid state (leaf sheet state.environment state.spacing e)
leaf_within Code sheet state e = record state { content = state.content ++ leaf_text e }
leaf_within Cell sheet state e = kept Cell state (flat_leaf sheet state.environment e)
leaf_within Image sheet state e = kept Image state (flat_leaf sheet state.environment e)

abbrev pub leaf_step : Sheet → State → Event → State
leaf_step sheet state e =
    let behind = leaf_within state.environment.within sheet state e in
    record behind { environment = environment_behind state.environment e }

abbrev pub step : Look → State → Event → State
step look state (event.Start tag) = started look.sheet state tag
step look state (event.End end) = ended look state
step look state e = leaf_step look.sheet state e

-- the events, one after another
abbrev pub run : Look → List Event → State → State
run look [] state = state
run look (e ∷ es) state = run look es (step look state e)
