-- The markers of items.
use Rattle.std.specs.Prelude.{ℕ, ◌+◌, ◌-◌, ◌*◌, ◌^◌, min, List, ◌++◌, Option, None, Some, codes, length, replicate}
use Rattle.std.specs.Fmt.{decimal}
use Rattle.term_text.specs.Text.{SpanView}
use Rattle.md_table.specs.Sheet.{Sheet}
use Rattle.md_text.specs.Marks.{plain_span, styled_span}

-- in a list at depth d markers are as wide as `- ` behind 4d - 4 blanks, a number being right-aligned in 4d - 3 columns
abbrev pub marker_text : ℕ → Option ℕ → List ℕ
marker_text depth None = replicate (4 * depth - 4) 32 ++ codes "- "
marker_text depth (Some n) = replicate (4 * depth - 3 - length (decimal n)) 32 ++ (decimal n ++ codes ". ")

-- a marker without a number is plain
abbrev pub marker : Sheet → ℕ → Option ℕ → SpanView
marker sheet depth None = plain_span (marker_text depth None)
marker sheet depth (Some n) = styled_span (marker_text depth (Some n)) sheet.list_marker

-- each character of a marker is one byte and one column
abbrev pub marker_width : ℕ → Option ℕ → ℕ
marker_width depth number = length (marker_text depth number)

-- the number of the next item; a good tree has no item behind the greatest number
abbrev pub number_after : Option ℕ → Option ℕ
number_after None = None
number_after (Some n) = Some (min (n + 1) (2 ^ 64 - 1))
