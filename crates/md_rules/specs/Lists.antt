-- Lists: items of one kind.
use Rattle.std.specs.Prelude.{ℕ, zero, suc, ◌==◌, Bool, true, Option, None, Some, List, [], ◌∷◌, if◌then◌else◌}
use Rattle.std.specs.List.{list_any}
use Rattle.md_lines.specs.Lines.{LineText, is_empty}
use Rattle.md_rules.specs.Code.{if_more}
use Rattle.md_rules.specs.Items.{item_more}
use Rattle.md_rules.specs.Starts.{block_start}
use Rattle.md_rules.specs.declared.start.BlockStart.{BlockStart}
use Rattle.md_rules.specs.declared.start.BlockStart.TheVariants as start
use Rattle.md_rules.specs.declared.start.Items.TheVariants.{All}
use Rattle.md_rules.specs.declared.item.Marker.{Marker}

-- the marker of the item that begins
abbrev pub marker_at : BlockStart → Option Marker
marker_at (start.Item marker) = Some marker
marker_at _ = None

abbrev pub of_kind : ℕ → Option Marker → Option Marker
of_kind kind None = None
of_kind kind (Some marker) = if marker.kind == kind then Some marker else None

-- the marker of the next item of a list of this kind; no other block begins there
abbrev pub next_item : ℕ → LineText → Option Marker
next_item kind line = of_kind kind (marker_at (block_start true All line []))

-- an item is taken with the further lines of the list
abbrev pub with_item : Option Marker → (Marker → ℕ) → ℕ
with_item None more = 0
with_item (Some marker) more = suc (more marker)

-- How many of the lines further items take, behind so many lines of the item before. Empty lines between two items are
-- taken with the second.
unfoldable pub list_more : ℕ → ℕ → List LineText → ℕ
list_more kind n [] = 0
list_more kind (suc n) (line ∷ later) = suc (list_more kind n later)
list_more kind zero (line ∷ later) =
    if is_empty line then if_more (list_more kind zero later)
    else with_item (next_item kind line) (λ marker. list_more kind (item_more marker line later) later)

-- An empty line stands between the first and the last nonempty line of a list, which are the first and the last of all
-- its lines.
abbrev pub is_loose : List LineText → Bool
is_loose lines = list_any is_empty lines
