-- What tables lay out.
use Rattle.std.specs.Prelude.{ℕ, ◌+◌, ◌-◌, ◌==◌, if◌then◌else◌, Bool, true, false, not, ◌&&◌, Option, None, Some, List, [], ◌∷◌}
use Rattle.term_text.specs.declared.alignment.Alignment.{Alignment}
use Rattle.term_text.specs.Style.{no_style}
use Rattle.term_text.specs.Text.{LineView}
use Rattle.md_tree.specs.declared.event.Tag.TheVariants as tag
use Rattle.md_tree.specs.Tree.{Nodes, Empty, Leaf, Branch}
use Rattle.md_picture.specs.Picture.{TableView, picture}
use Rattle.md_table.specs.Builder.{table_styles}
use Rattle.md_text.specs.declared.environment.Environment.{Environment}
use Rattle.md_text.specs.declared.environment.Spacing.{Spacing}
use Rattle.md_text.specs.declared.environment.Fresh.{Fresh}
use Rattle.md_text.specs.declared.environment.Fresh.TheVariants as fresh
use Rattle.md_text.specs.Marks.{Pad}
use Rattle.md_text.specs.Laid.{Laid, nothing_laid, then_laid, open_laid, join_laid, put_all, each_laid, with_due}
use Rattle.md_text.specs.Look.{Look}
use Rattle.md_text.specs.Environment.{environment_inside}
use Rattle.md_text.specs.Flat.{flat}

-- ---- cells

abbrev pub cell : Look → Environment → Nodes → LineView
cell look env inside = record { spans = flat look env inside; style = no_style }

-- the cells in a head or row
abbrev pub cells : Look → Environment → Nodes → List LineView
cells look env Empty = []
cells look env (Leaf e rest) = cells look env rest
cells look env (Branch tag inside rest) = cell look env inside ∷ cells look env rest

-- the cells of the head
abbrev pub header : Look → Environment → Nodes → List LineView
header look env Empty = []
header look env (Leaf e rest) = header look env rest
header look env (Branch tag.TableHead inside rest) = cells look env inside
header look env (Branch tag inside rest) = header look env rest

-- those of each row
abbrev pub rows : Look → Environment → Nodes → List (List LineView)
rows look env Empty = []
rows look env (Leaf e rest) = rows look env rest
rows look env (Branch tag.TableRow inside rest) = cells look env inside ∷ rows look env rest
rows look env (Branch tag inside rest) = rows look env rest

-- the table of an element with these nodes
abbrev pub table_of : Look → Environment → List Alignment → Nodes → TableView
table_of look env alignments inside =
    let env_in = environment_inside look.sheet env (tag.Table alignments) inside in
    record { alignments = alignments; header = header look env_in inside; rows = rows look env_in inside }

-- ---- lines

abbrev pub in_item : Environment → Bool
in_item env = not (env.item_width == 0)

-- the columns of quote marks and of the blank behind them
abbrev pub quotes_width : Environment → ℕ
quotes_width env = if env.quotes == 0 then 0 else env.quotes + 1

-- what quote marks and an item's width leave of the width that is set for tables
abbrev pub room_for_table : Option ℕ → Environment → Option ℕ
room_for_table None env = None
room_for_table (Some width) env = Some (width - (quotes_width env + env.item_width))

abbrev pub table_picture : Look → Environment → TableView → List LineView
table_picture look env view = picture (table_styles look.sheet) (room_for_table look.table_width env) look.row_dividers view

abbrev pub is_marker : Fresh → Bool
is_marker fresh.Marker = true
is_marker _ = false

-- as many blanks as the item is wide; none outside items
abbrev pub indent : Environment → Spacing → Laid
indent env spacing =
    if in_item env then record {
      marks = Pad env.item_width ∷ [];
      after = record { due = spacing.due; fresh = fresh.No; any_line = spacing.any_line };
    }
    else nothing_laid spacing

-- A line of a picture: Open, and inside an item its blanks. The first line stands on the line of a fresh marker, which then
-- is fresh no more.
abbrev pub begin_picture_line : Environment → Spacing → Laid
begin_picture_line env spacing =
    if in_item env && is_marker spacing.fresh then nothing_laid spacing
    else then_laid (open_laid env spacing) (λ opened. indent env opened)

abbrev pub picture_line : Environment → Spacing → LineView → Laid
picture_line env spacing line = then_laid (begin_picture_line env spacing) (λ begun. put_all begun line.spans)

-- Table: Gap, and none is due; the lines of its picture; a line is due
abbrev pub table : Look → Environment → Spacing → TableView → Laid
table look env spacing view =
    then_laid (join_laid env spacing) (λ begun.
    then_laid (each_laid (picture_line env) begun (table_picture look env view)) (λ drawn. nothing_laid (with_due true drawn)))
